-- What the runs find before it is written down.
use Rattle.std.specs.Prelude.{ℕ, List}
use Rattle.plan_core.specs.PlanContents.{plan_contents}
use Rattle.plan_text.specs.Grammar.{Spells}
use Rattle.verdicts.specs.declared.checked.Checked as value
use Rattle.verdicts.specs.Faults.{AreFaults, fault_list}
pub use Rattle.verifying.specs.Verified.{AnswerOf}

-- the text spells the plan, and these are its faults
pub record CheckOf (text : List ℕ) (checked : value.Checked) : Type 0 where
  pub spelled : Spells text (plan_contents checked.plan)
  pub right : AreFaults (plan_contents checked.plan) (fault_list checked.faults)
