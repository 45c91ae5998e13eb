-- The status of a run that tells of the transactions in a dump, by what those that it told of come to.
use Rattle.std.specs.Prelude.{◌≡◌, ◌≤◌, ℕ, Option, Some, None}
use Rattle.run_parts.specs.declared.runs.Status.{Status}
use Rattle.run_parts.specs.declared.runs.Status.TheVariants.{Good, Bad, Refused}
use Rattle.drives.specs.declared.judging.Judging.{Judging}
use Rattle.dump_findings.specs.declared.selecting.Seen.{Seen}

-- how many of them a STOP was to end
abbrev pub least_of : Option ℕ → ℕ
least_of None = 0
least_of (Some least) = least

-- none that a STOP ended is unexplained, in none a controller departed from the rules of the plan, and there are as many as
-- there were to be
pub record IsGood (at_least : Option ℕ) (seen : Seen) (departed : ℕ) : Type 0 where
  pub explained : seen.unexplained ≡ 0
  pub kept : departed ≡ 0
  pub enough : least_of at_least ≤ seen.stopped

-- Good where that is so, and Bad where it is not
abbrev pub JudgesSeen : Status → Option ℕ → Seen → ℕ → Type 0
JudgesSeen Good at_least seen departed = IsGood at_least seen departed
JudgesSeen Bad at_least seen departed = IsGood at_least seen departed → ⊥
JudgesSeen Refused at_least seen departed = ⊥

-- in how many transactions a controller departed from the rules, where lines of controllers are followed; and else so many
abbrev pub departed_in : ℕ → Option Judging → ℕ
departed_in known None = known
departed_in known (Some judging) = judging.wrong
