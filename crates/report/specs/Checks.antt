-- What a check says of a plan text.
use Rattle.std.specs.Prelude.{◌≡◌, List, ℕ}
use Rattle.plan_core.specs.Contents.{Contents}
use Rattle.plan_core.specs.Faults.{IsSafe}
use Rattle.pair_walk.specs.declared.walk_pair.Verdict.{Verdict}
use Rattle.plan_text.specs.Grammar.{Spells}
use Rattle.verdicts.specs.Verdicts.{AreVerdicts}
use Rattle.report.specs.Lines.{check_lines}
use Rattle.run_parts.specs.declared.runs.Status.{Status}
use Rattle.run_parts.specs.declared.runs.Status.TheVariants.{Good, Bad, Refused}

-- Good where the plan is safe for every lawful set, and Bad where it is not
abbrev pub Judges : Status → Contents → Type 0
Judges Good plan = IsSafe plan
Judges Bad plan = IsSafe plan → ⊥
Judges Refused plan = ⊥

-- the text spells a plan, the report has the lines for its verdicts, and the status judges of it
pub record Checked (text report : List ℕ) (status : Status) : Type 0 where
  pub plan : Contents
  pub spelled : Spells text plan
  pub verdicts : List Verdict
  pub right : AreVerdicts plan verdicts
  pub lines : report ≡ check_lines plan verdicts
  pub judged : Judges status plan
