use Rattle.std.proofs.Common.{◌≡◌, ◌++◌, drop, string_bytes}
use Rattle.order.specs.Labels.{AreLabels}
use Rattle.order.specs.Lines.{pair_lines}
use Rattle.plan_core.specs.Contents.{Contents}
use Rattle.order.proofs.lines.push_pairs.Given as goal

-- the lines so far and those of what is left are all lines
abbrev pub invariant-loop-k : goal.invariant-loop-k
invariant-loop-k l = (plan : Contents) → AreLabels plan l.labels →
    string_bytes l.report ++ pair_lines plan l.k (drop l.k l.pairs) (drop l.k l.ways)
    ≡ string_bytes l.initial.report ++ pair_lines plan 0 l.pairs l.ways
