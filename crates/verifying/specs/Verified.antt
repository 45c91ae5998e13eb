-- What verify finds in a plan text and a certificate text, and what it says of them.
use Rattle.std.specs.Prelude.{◌≡◌, ℕ, List}
use Rattle.verifying.specs.Accepts.{AnswersBytes}
use Rattle.cert_check.specs.declared.answers.Answer.{Answer}
use Rattle.cert_check.specs.declared.answers.Answered.{Answered}
use Rattle.plan_core.specs.PlanContents.{plan_contents}
use Rattle.plan_text.specs.Grammar.{Spells}
use Rattle.run_parts.specs.declared.runs.Status.{Status}
use Rattle.verifying.specs.Answers.{answer_status, verify_line}

-- the first text spells the plan, and this is the answer for both
pub record AnswerOf (texts : List ℕ × List ℕ) (it : Answered) : Type 0 where
  pub spelled : Spells texts.0 (plan_contents it.plan)
  pub right : AnswersBytes texts.0 texts.1 it.answer

-- the report is the line of the answer that the texts of the plan and of the certificate have, and the status is its own
pub record Verified (texts : List ℕ × List ℕ) (report : List ℕ) (status : Status) : Type 0 where
  pub answer : Answer
  pub right : AnswersBytes texts.0 texts.1 answer
  pub line : report ≡ verify_line answer
  pub ended : status ≡ answer_status answer
