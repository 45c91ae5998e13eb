use Rattle.std.proofs.Common.{ℕ, List, ◌≤◌}
use Rattle.certificate.specs.Proofs.{ProofTree}
use Rattle.certificate.specs.Reading.{ReadSoFar, bytes_left}
use Rattle.plan_core.specs.PlanContents.{plan_contents}
use Rattle.cert_check.specs.Judged.{Tallies, IsMemo}
use Rattle.cert_check.proofs.checkers.judge_lines.Given as goal

-- Of each text of which these were read and tallied, further proofs have been read, and this is the tally of all. What is
-- remembered is right.
abbrev pub invariant-lines : goal.invariant-lines
invariant-lines l = record {
  read : (text : List ℕ) (before : List ProofTree) → ReadSoFar text before l.initial.lines → Tallies (plan_contents l.plan) before l.initial.tally
      → (trees : List ProofTree) × ReadSoFar text trees l.lines × Tallies (plan_contents l.plan) trees l.tally;
  left : bytes_left l.lines ≤ bytes_left l.initial.lines;
  memo : IsMemo (plan_contents l.plan) l.memo;
}

abbrev pub decreases-lines : goal.decreases-lines
decreases-lines l = bytes_left l.lines
