-- Parts of lines that several reports have.
use Rattle.std.specs.Prelude.{ℕ, List, ◌++◌, codes}
use Rattle.std.specs.List.{flat_map}
use Rattle.plan_core.specs.Contents.{Contents}
use Rattle.plan_core.specs.Labels.{label_of}

-- the labels of these participants, each after one space
abbrev pub labels : Contents → List ℕ → List ℕ
labels plan ps = flat_map (λ p. codes " " ++ label_of plan p) ps
