-- The lines of a check's report.
use Rattle.std.specs.Prelude.{ℕ, ◌+◌, ◌==◌, List, [], ◌∷◌, ◌++◌, length, codes, if◌then◌else◌}
use Rattle.std.specs.Fmt.{decimal}
use Rattle.message_tree.specs.Symbols.{wire_text, kind_word}
use Rattle.certificate.specs.declared.values.Fault.{Fault}
use Rattle.plan_core.specs.Contents.{Contents}
use Rattle.plan_core.specs.Labels.{label_of}
use Rattle.plan_core.specs.Pairs.{pairs_of}
use Rattle.pair_walk.specs.declared.walk_pair.Outcome.{Outcome}
use Rattle.pair_walk.specs.declared.walk_pair.Outcome.TheVariants.{Safe, Unsafe}
use Rattle.pair_walk.specs.declared.walk_pair.Verdict.{Verdict}

-- pair I X Y: KIND against KIND after WIRE
unfoldable pub fault_text : ℕ → List ℕ → List ℕ → Fault → List ℕ
fault_text i first second fault =
    codes "pair " ++ (decimal i ++ (codes " " ++ (first ++ (codes " " ++ (second ++ (codes ": " ++
    (kind_word fault.first ++ (codes " against " ++ (kind_word fault.second ++ (codes " after " ++
    (wire_text fault.wire.items ++ codes "\n")))))))))))

abbrev pub fault_line : Contents → ℕ → ℕ × ℕ → Fault → List ℕ
fault_line plan i p fault = fault_text i (label_of plan p.0) (label_of plan p.1) fault

-- a pair that is safe has no line
abbrev pub outcome_line : Contents → ℕ → ℕ × ℕ → Outcome → List ℕ
outcome_line plan i p (Safe cert) = []
outcome_line plan i p (Unsafe fault) = fault_line plan i p fault

-- the lines of these verdicts, of which the first is that of pair i
abbrev pub outcome_lines : Contents → ℕ → List Verdict → List (ℕ × ℕ) → List ℕ
outcome_lines plan i (v ∷ verdicts) (p ∷ pairs) =
    outcome_line plan i p v.outcome ++ outcome_lines plan (i + 1) verdicts pairs
outcome_lines plan i _ _ = []

abbrev pub faulty : Outcome → ℕ
faulty (Safe cert) = 0
faulty (Unsafe fault) = 1

-- how many are not safe
abbrev pub fault_count : List Verdict → ℕ
fault_count [] = 0
fault_count (v ∷ verdicts) = faulty v.outcome + fault_count verdicts

unfoldable pub last_line : ℕ → ℕ → List ℕ
last_line pairs faults =
    if faults == 0
    then codes "safe: " ++ (decimal pairs ++ codes " pairs\n")
    else codes "unsafe: " ++ (decimal faults ++ (codes " of " ++ (decimal pairs ++ codes " pairs\n")))

-- a line for each pair that is not safe, in the order of the pairs, and one that counts
abbrev pub check_lines : Contents → List Verdict → List ℕ
check_lines plan verdicts =
    outcome_lines plan 0 verdicts (pairs_of plan) ++ last_line (length (pairs_of plan)) (fault_count verdicts)
