-- What a rehearsal comes to, and its lines.
use Rattle.std.specs.Prelude.{◌≡◌, ◌≢◌, ◌⊎◌, ℕ, ◌<◌, Bool, List, Contains, Some, None, ⊤}
use Rattle.plan_core.specs.Contents.{Contents}
use Rattle.plan_core.specs.Participants.{participant_count}
use Rattle.plan_core.specs.PlanContents.{plan_contents}
use Rattle.plan_core.specs.declared.plans.Plan.{Plan}
use Rattle.cert_check.specs.Accepts.{IsAnswer}
use Rattle.cert_check.specs.Holds.{accepted_plan}
use Rattle.cert_check.specs.declared.answers.Answer.TheVariants.{Safe}
use Rattle.cert_check.specs.declared.answers.Answered.{Answered}
use Rattle.bus_bench.specs.declared.finishing.Played.{Played}
use Rattle.plays.specs.Starters.{starters_refusal}
use Rattle.verifying.specs.Answers.{verify_line, answer_status}
use Rattle.run_parts.specs.declared.errors.RunError.TheVariants.{NoMemory}
use Rattle.run_parts.specs.declared.runs.Status.{Status}
use Rattle.run_parts.specs.declared.runs.Status.TheVariants.{Good}
use Rattle.bench_run.specs.Filled.{IsRehearsed}
use Rattle.bench_run.specs.Lines.{rehearsal_lines}
use Rattle.bench_run.specs.Rehearsals.{RefusesStarters}
use Rattle.bench_run.specs.Starters.{labels_in, AreNumbersOf}
use Rattle.bench_run.specs.declared.values.Rehearsal.{Rehearsal}
use Rattle.bench_run.specs.declared.values.Unplayed.{Unplayed}
use Rattle.bench_run.specs.declared.values.Outcome.{Outcome}
use Rattle.bench_run.specs.declared.values.Outcome.TheVariants as outcome

-- The text of the starters names these participants, who may start together. They played with these answers, each with `fill`
-- where it might choose, until the run had ended.
pub record IsRunOf (plan : Contents) (starters : List ℕ) (answers : List Bool) (fill : Bool) (numbers : List ℕ) (played : Played) : Type 0 where
  pub named : AreNumbersOf plan (labels_in starters) numbers
  pub fit : starters_refusal plan numbers ≡ None
  pub rehearsed : IsRehearsed (record { plan = plan; starters = numbers; answers = answers }) fill played.wire.items played.won.items

-- those who have won are participants of the plan
abbrev pub AreParticipants : Contents → List ℕ → Type 0
AreParticipants plan won = (p : ℕ) → Contains won p → p < participant_count plan

-- the text of the certificate proves that this plan is safe, and this is the run of its starters
pub record IsRehearsalOf (plan : Contents) (starters : List ℕ) (answers : List Bool) (fill : Bool) (cert : List ℕ) (it : Rehearsal) : Type 0 where
  pub same_plan : plan_contents (accepted_plan it.accepted) ≡ plan
  pub certified : IsAnswer plan cert Safe
  pub filled : it.fill ≡ fill
  pub run : IsRunOf plan starters answers fill it.starters.items it.played

-- this is the run of the starters of this plan
abbrev pub IsPlayedOf : Plan → List ℕ → List Bool → Bool → Outcome → Type 0
IsPlayedOf plan starters answers fill (outcome.Played it) =
    (accepted_plan it.accepted ≡ plan) × (it.fill ≡ fill) × IsRunOf (plan_contents plan) starters answers fill it.starters.items it.played
IsPlayedOf plan starters answers fill (outcome.NotAccepted it) = ⊥

-- the text of the certificate has another answer for this plan
pub record IsRefusalOf (plan : Contents) (cert : List ℕ) (it : Answered) : Type 0 where
  pub same_plan : plan_contents it.plan ≡ plan
  pub other : it.answer ≢ Safe
  pub right : IsAnswer plan cert it.answer

abbrev pub IsOutcomeOf : Contents → List ℕ → List Bool → Bool → List ℕ → Outcome → Type 0
IsOutcomeOf plan starters answers fill cert (outcome.Played it) = IsRehearsalOf plan starters answers fill cert it
IsOutcomeOf plan starters answers fill cert (outcome.NotAccepted it) = IsRefusalOf plan cert it

-- An allocation failed. Or the text of the certificate proves that the plan is safe, no bench is opened for the starters, and the
-- plan is handed back.
abbrev pub IsUnplayedOf : Plan → List ℕ → List ℕ → Unplayed → Type 0
IsUnplayedOf plan starters cert it =
    ((it.error ≡ NoMemory) × (it.plan ≡ None))
    ⊎ (IsAnswer (plan_contents plan) cert Safe
    × RefusesStarters (plan_contents plan) starters it.error
    × (it.plan ≡ Some plan))

-- whoever has won is a participant
abbrev pub HasWinners : Outcome → Type 0
HasWinners (outcome.Played it) = AreParticipants (plan_contents (accepted_plan it.accepted)) it.played.won.items
HasWinners (outcome.NotAccepted it) = ⊤

-- ---- its lines, and its status

abbrev pub outcome_lines : Outcome → List ℕ
outcome_lines (outcome.Played it) = rehearsal_lines (plan_contents (accepted_plan it.accepted)) it.played.wire.items it.played.won.items
outcome_lines (outcome.NotAccepted it) = verify_line it.answer

abbrev pub outcome_status : Outcome → Status
outcome_status (outcome.Played it) = Good
outcome_status (outcome.NotAccepted it) = answer_status it.answer
