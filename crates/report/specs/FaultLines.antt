-- The lines of a check's report, from its faults alone.
-- Only private contracts and proofs use this.
use Rattle.std.specs.Prelude.{ℕ, Option, Some, None, List, [], ◌∷◌, ◌++◌, length, slice_get}
use Rattle.certificate.specs.declared.values.Fault.{Fault}
use Rattle.plan_core.specs.Contents.{Contents}
use Rattle.plan_core.specs.Pairs.{pairs_of}
use Rattle.report.specs.Lines.{fault_line, last_line}

abbrev pub line_of : Contents → ℕ → Option (ℕ × ℕ) → Fault → List ℕ
line_of plan i (Some p) fault = fault_line plan i p fault
line_of plan i None fault = []

-- a line for each of these faults, which stand beside the numbers of their pairs
abbrev pub fault_lines : Contents → List (ℕ × Fault) → List ℕ
fault_lines plan [] = []
fault_lines plan (f ∷ faults) = line_of plan f.0 (slice_get (pairs_of plan) f.0) f.1 ++ fault_lines plan faults

abbrev pub fault_report : Contents → List (ℕ × Fault) → List ℕ
fault_report plan faults = fault_lines plan faults ++ last_line (length (pairs_of plan)) (length faults)
