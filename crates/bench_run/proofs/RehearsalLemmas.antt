-- What a run knows of the bench that it has played, or has not opened.
use Rattle.std.proofs.Common.{◌≡◌, ◌≢◌, ◌⊎◌, ◌<◌, ℕ, Bool, Option, Some, None, Result, Ok, Err, IfOk, IfErr, List, ap, sym, ◌∙◌, subst, inl, inr}
use Rattle.std.specs.Prelude.{Contains, filter, string_bytes, String}
use Rattle.std.specs.declared.alloc.Global.{Global}
use Rattle.message_tree.specs.declared.items.Item.{Item}
use Rattle.plan_core.specs.Contents.{Contents}
use Rattle.plan_core.specs.Participants.{participant_count}
use Rattle.plan_core.specs.PlanContents.{plan_contents}
use Rattle.plan_core.proofs.PlanLemmas.{limits_of}
use Rattle.plan_core.specs.declared.plans.Plan.{Plan}
use Rattle.plan_text.specs.Grammar.{Spells}
use Rattle.cert_check.specs.Accepts.{IsAnswer}
use Rattle.verifying.proofs.AcceptLemmas.{answers_texts}
use Rattle.cert_check.specs.declared.answers.Answer.TheVariants.{Safe}
use Rattle.cert_check.specs.declared.answers.Answered.{Answered}
use Rattle.bus_bench.specs.declared.finishing.Played.{Played}
use Rattle.plays.specs.Games.{Game}
use Rattle.bus_bench.specs.Hands.{contents_in}
use Rattle.bus_bench.specs.Opening.{IsOpened}
use Rattle.bus_bench.specs.Seats as seats
use Rattle.bus_bench.specs.Seats.{BenchName, game_of}
use Rattle.plays.specs.Starters.{starters_refusal}
use Rattle.run_errors.specs.declared.benches.OpenError.TheVariants.{NoMemory}
use Rattle.run_parts.specs.PlanTexts.{RefusesPlan, SpellsPlan}
use Rattle.run_parts.specs.Devices.{Reader}
use Rattle.run_parts.specs.Runs.{ReadsBoth, HaltsAtBoth, after_both}
use Rattle.run_parts.specs.declared.errors.RunError.{RunError}
use Rattle.run_parts.specs.declared.errors.RunError.TheVariants as memory
use Rattle.run_parts.specs.declared.runs.Status.{Status}
use Rattle.bench_run.specs.Filled.{IsRehearsed}
use Rattle.bench_run.specs.Lines.{rehearsal_lines}
use Rattle.bench_run.specs.Outcomes.{IsPlayedOf, IsRefusalOf, IsOutcomeOf, IsUnplayedOf, outcome_lines, outcome_status}
use Rattle.bench_run.specs.declared.values.Outcome.{Outcome}
use Rattle.bench_run.specs.declared.values.Outcome.TheVariants as outcome
use Rattle.bench_run.specs.declared.values.Unplayed.{Unplayed}
use Rattle.bench_run.specs.Rehearsals.{Rehearsed, RefusesStarters, IsNotOpened, HaltsAtBench, at_texts, at_starters}
use Rattle.bench_run.proofs.WonLemmas.{won_below}
use Rattle.bench_run.specs.Starters.{bits_in}

abbrev made : Option Plan → List ℕ → List Bool → Game
made plan starters answers = record { plan = contents_in plan; starters = starters; answers = answers }

game_is : (plan : Plan) (starters : List ℕ) (answers : List Bool) (bench host : BenchName) (ss : List seats.Player) → IsOpened plan starters answers bench host ss → game_of bench ≡ made (Some plan) starters answers
game_is plan starters answers bench host ss o =
    ap (λ (p : Option Plan). made p bench.starters bench.answers) o.same_plan
    ∙ ap (λ (xs : List ℕ). made (Some plan) xs bench.answers) o.same_starters
    ∙ ap (λ (bs : List Bool). made (Some plan) starters bs) o.same_answers

-- the certificate proves the plan, and the bench was played
pub rehearses : (plan : Plan) (starters cert : List ℕ) (answers : List Bool) (fill : Bool) (it : Outcome) → IsAnswer (plan_contents plan) cert Safe →
    IsPlayedOf plan starters answers fill it → IsOutcomeOf (plan_contents plan) starters answers fill cert it
rehearses plan starters cert answers fill (outcome.Played it) safe h =
    record { same_plan = ap plan_contents h.0; certified = safe; filled = h.1; run = h.2 }
rehearses plan starters cert answers fill (outcome.NotAccepted it) safe h = absurd h

-- the same of what came of the plan that was accepted
pub rehearsed_by : (plan accepted : Plan) (starters cert : List ℕ) (answers : List Bool) (fill : Bool) (r : Result Outcome Unplayed) → accepted ≡ plan → IsAnswer (plan_contents plan) cert Safe →
    IfOk r (IsPlayedOf accepted starters answers fill) → IfOk r (IsOutcomeOf (plan_contents plan) starters answers fill cert)
rehearsed_by plan accepted starters cert answers fill (Ok it) same safe h =
    rehearses plan starters cert answers fill it safe (subst (λ (p : Plan). IsPlayedOf p starters answers fill it) same h)
rehearsed_by plan accepted starters cert answers fill (Err e) same safe h = tt

pub unplayed_by : (plan accepted : Plan) (starters cert : List ℕ) (r : Result Outcome Unplayed) → accepted ≡ plan → IsAnswer (plan_contents plan) cert Safe →
    IfErr r (λ e. RefusesStarters (plan_contents accepted) starters e.error × (e.plan ≡ Some accepted)) → IfErr r (IsUnplayedOf plan starters cert)
unplayed_by plan accepted starters cert (Ok it) same safe h = tt
unplayed_by plan accepted starters cert (Err e) same safe h =
    inr (safe, subst (λ (p : Plan). RefusesStarters (plan_contents p) starters e.error) same h.0, h.1 ∙ ap Some same)

-- the certificate has another answer
pub not_accepted : (plan : Plan) (cert : List ℕ) (it : Answered) → it.plan ≡ plan → (it.answer ≢ Safe) × IsAnswer (plan_contents plan) cert it.answer → IsRefusalOf (plan_contents plan) cert it
not_accepted plan cert it same right = record { same_plan = ap plan_contents same; other = right.0; right = right.1 }

-- what is due of what came of it, for a text that spells the plan
pub due_of : (starters answers report : List ℕ) (fill : Bool) (plan : Contents) (text cert : List ℕ) (status : Status) (it : Outcome) → Spells text plan →
    IsOutcomeOf plan starters (bits_in answers) fill cert it → report ≡ outcome_lines it → status ≡ outcome_status it → Rehearsed starters answers fill (text, cert) report status
due_of starters answers report fill plan text cert status (outcome.Played it) spelled h lines ended = inr (record {
  plan = plan;
  spelled = spelled;
  certified = answers_texts plan cert Safe h.certified text spelled;
  played = record {
    numbers = it.starters.items;
    named = h.run.named;
    fit = h.run.fit;
    wire = it.played.wire.items;
    won = it.played.won.items;
    rehearsed = h.run.rehearsed;
    lines = lines ∙ ap (λ (p : Contents). rehearsal_lines p it.played.wire.items it.played.won.items) h.same_plan;
  };
  ended = ended;
})
due_of starters answers report fill plan text cert status (outcome.NotAccepted it) spelled h lines ended = inl (record {
  answer = it.answer;
  other = h.other;
  right = answers_texts plan cert it.answer h.right text spelled;
  line = lines;
  ended = ended;
})

-- the same of what was written of it
pub due_when_written : (starters answers : List ℕ) (fill : Bool) (plan : Contents) (cert : List ℕ) (it : Outcome) (r : Result (String Global × Status) RunError) →
    IsOutcomeOf plan starters (bits_in answers) fill cert it → IfOk r (λ x. string_bytes x.0 ≡ outcome_lines it) → IfOk r (λ x. x.1 ≡ outcome_status it) →
    IfOk r (λ x. (text : List ℕ) → Spells text plan → Rehearsed starters answers fill (text, cert) (string_bytes x.0) x.1)
due_when_written starters answers fill plan cert it (Ok x) h lines ended = λ text spelled. due_of starters answers (string_bytes x.0) fill plan text cert x.1 it spelled h lines ended
due_when_written starters answers fill plan cert it (Err e) h lines ended = tt

-- what was not written, since an allocation failed
pub no_report : {X : Type 0} (plan : Contents) (starters cert : List ℕ) (r : Result X RunError) → IfErr r (λ e. e ≡ memory.NoMemory) →
    IfErr r (λ e. (text : List ℕ) → Spells text plan → (e ≡ memory.NoMemory) ⊎ IsNotOpened starters (text, cert) e)
no_report plan starters cert (Ok x) h = tt
no_report plan starters cert (Err e) h = λ text spelled. inl h

pub not_opened : (plan : Plan) (starters cert text : List ℕ) (it : Unplayed) → Spells text (plan_contents plan) → IsUnplayedOf plan starters cert it → (it.error ≡ memory.NoMemory) ⊎ IsNotOpened starters (text, cert) it.error
not_opened plan starters cert text it spelled (inl none) = inl none.0
not_opened plan starters cert text it spelled (inr h) = inr (record {
  plan = plan_contents plan;
  spelled = spelled;
  certified = answers_texts (plan_contents plan) cert Safe h.0 text spelled;
  refused = h.1;
})

-- whoever has won is a participant
pub winners_known : (plan given : Plan) (slice : List ℕ) (bits : List Bool) (bench host : BenchName) (ss : List seats.Player) (fill : Bool) (wire : List Item) (won : List ℕ) → given ≡ plan →
    IsOpened plan slice bits bench host ss → starters_refusal (plan_contents plan) slice ≡ None → IsRehearsed (game_of bench) fill wire won →
    (p : ℕ) → Contains won p → p < participant_count (plan_contents given)
winners_known plan given slice bits bench host ss fill wire won same opened fit r p c =
    subst (λ (q : Plan). p < participant_count (plan_contents q)) (sym same)
    (won_below (plan_contents plan) slice won r.live (limits_of plan) fit (r.winners ∙ ap (filter r.live) opened.same_starters) p c)

-- what is due for the bytes that were read
pub due_for : (starters answers : List ℕ) (fill : Bool) (text cert slice report bytes : List ℕ) (status : Status) → slice ≡ cert → bytes ≡ report →
    Rehearsed starters answers fill (text, slice) report status → Rehearsed starters answers fill (text, cert) bytes status
due_for starters answers fill text cert slice report bytes status same spelled due =
    subst (λ (b : List ℕ). Rehearsed starters answers fill (text, cert) b status) (sym spelled)
    (subst (λ (c : List ℕ). Rehearsed starters answers fill (text, c) report status) same due)

module _ {D E : Type 0} (first : Reader D) (second : Reader E) (starters : List ℕ) (before now : D × E) (text cert slice : List ℕ) where
  pub halts_after : (e : RunError) → slice ≡ cert → ReadsBoth first second before (text, cert) now → (e ≡ memory.NoMemory) ⊎ IsNotOpened starters (text, slice) e → HaltsAtBench first second starters before e now
  halts_after e same read (inl wanted) =
      at_texts (subst (λ (x : RunError). HaltsAtBoth first second RefusesPlan SpellsPlan before x now) (sym wanted) (after_both {texts = (text, cert)} read))
  halts_after e same read (inr n) =
      at_starters {texts = (text, cert)} read (subst (λ (c : List ℕ). IsNotOpened starters (text, c) e) same n)
