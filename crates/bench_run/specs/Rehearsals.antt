-- What is due for the texts of a plan, of its certificate, of the starters and of the answers.
use Rattle.std.specs.Prelude.{◌≡◌, ◌≢◌, ◌⊎◌, ℕ, Bool, List, Some, None}
use Rattle.message_tree.specs.declared.items.Item.{Item}
use Rattle.plan_core.specs.Contents.{Contents}
use Rattle.plan_text.specs.Grammar.{Spells}
use Rattle.verifying.specs.Accepts.{IsCertified, AnswersBytes}
use Rattle.cert_check.specs.declared.answers.Answer.{Answer}
use Rattle.cert_check.specs.declared.answers.Answer.TheVariants.{Safe}
use Rattle.plays.specs.Starters.{starters_refusal}
use Rattle.verifying.specs.Answers.{verify_line, answer_status}
use Rattle.run_parts.specs.PlanTexts.{RefusesPlan, SpellsPlan}
use Rattle.run_parts.specs.Devices.{Reader}
use Rattle.run_parts.specs.Runs.{ReadsBoth, HaltsAtBoth}
use Rattle.run_parts.specs.declared.errors.RunError.{RunError}
use Rattle.run_parts.specs.declared.errors.RunError.TheVariants.{Bench, NoMemory}
use Rattle.run_parts.specs.declared.runs.Status.{Status}
use Rattle.run_parts.specs.declared.runs.Status.TheVariants.{Good}
use Rattle.bench_run.specs.Filled.{IsRehearsed}
use Rattle.bench_run.specs.Lines.{rehearsal_lines}
use Rattle.bench_run.specs.Starters.{labels_in, AreNumbersOf, bits_in}

-- The text of the starters names participants that may start together. They played with these answers, each with `fill`
-- where it might choose, until the run had ended, and the report has the lines of that.
pub record IsPlayedOut (plan : Contents) (starters : List ℕ) (answers : List Bool) (fill : Bool) (report : List ℕ) : Type 0 where
  pub numbers : List ℕ
  pub named : AreNumbersOf plan (labels_in starters) numbers
  pub fit : starters_refusal plan numbers ≡ None
  pub wire : List Item
  pub won : List ℕ
  pub rehearsed : IsRehearsed (record { plan = plan; starters = numbers; answers = answers }) fill wire won
  pub lines : report ≡ rehearsal_lines plan wire won

-- the texts are those of a plan and of a certificate that proves it safe, and the bench was played out
pub record IsPlayed (starters answers : List ℕ) (fill : Bool) (texts : List ℕ × List ℕ) (report : List ℕ) (status : Status) : Type 0 where
  pub plan : Contents
  pub spelled : Spells texts.0 plan
  pub certified : IsCertified texts.0 texts.1
  pub played : IsPlayedOut plan starters (bits_in answers) fill report
  pub ended : status ≡ Good

-- the texts have another answer than `accepted safe`, and the report is its line
pub record IsNotAccepted (texts : List ℕ × List ℕ) (report : List ℕ) (status : Status) : Type 0 where
  pub answer : Answer
  pub other : answer ≢ Safe
  pub right : AnswersBytes texts.0 texts.1 answer
  pub line : report ≡ verify_line answer
  pub ended : status ≡ answer_status answer

abbrev pub Rehearsed : List ℕ → List ℕ → Bool → List ℕ × List ℕ → List ℕ → Status → Type 0
Rehearsed starters answers fill texts report status =
    IsNotAccepted texts report status ⊎ IsPlayed starters answers fill texts report status

-- no bench is opened for the starters of this text, but for memory
abbrev pub RefusesStarters : Contents → List ℕ → RunError → Type 0
RefusesStarters plan starters (Bench refusal) =
    (numbers : List ℕ) × AreNumbersOf plan (labels_in starters) numbers × (starters_refusal plan numbers ≡ Some refusal)
RefusesStarters plan starters NoMemory = Unit {0}
RefusesStarters plan starters _ = ⊥

-- the texts are those of a plan and of a certificate that proves it safe, and no bench is opened
pub record IsNotOpened (starters : List ℕ) (texts : List ℕ × List ℕ) (error : RunError) : Type 0 where
  pub plan : Contents
  pub spelled : Spells texts.0 plan
  pub certified : IsCertified texts.0 texts.1
  pub refused : RefusesStarters plan starters error

module _ {D E : Type 0} (first : Reader D) (second : Reader E) (starters : List ℕ) where
  -- the run halted at the two texts, as a run that only verifies does, or else at the starters
  pub data HaltsAtBench (before : D × E) : RunError → D × E → Type 0 where
    at_texts : {error : RunError} {now : D × E} →
        HaltsAtBoth first second RefusesPlan SpellsPlan before error now →
        HaltsAtBench before error now
    at_starters : {error : RunError} {texts : List ℕ × List ℕ} {now : D × E} →
        ReadsBoth first second before texts now →
        IsNotOpened starters texts error →
        HaltsAtBench before error now
