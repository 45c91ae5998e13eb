-- What the runs of print, expand and brief know of their texts.
use Rattle.std.proofs.Common.{◌≡◌, ◌⊎◌, ◌∙◌, List, ℕ, Result, Ok, Err, IfErr, false, inl, inr, refl, subst, sym}
use Rattle.plan_core.specs.Contents.{Contents}
use Rattle.plan_core.specs.Limits.{IsWithinLimits}
use Rattle.spellings.specs.Canonical.{plan_text}
use Rattle.plan_text.specs.Grammar.{Spells}
use Rattle.plan_text.specs.Refusals.{First}
use Rattle.plan_text.specs.declared.errors.PlanError.{PlanError}
use Rattle.plan_text.specs.declared.errors.PlanError.TheVariants as plan
use Rattle.brief_text.specs.Briefs.{Means, IsRefused}
use Rattle.brief_tokens.specs.Names.{has_brief_word, LacksBrief}
use Rattle.plan_text.specs.declared.briefs.NoBrief.{NoBrief}
use Rattle.plan_text.specs.declared.briefs.NoBrief.TheVariants as cause
use Rattle.spellings.specs.Spellings.{Printed, Expanded, Abbreviated, RefusesBrief, GivesNoBrief}
use Rattle.run_parts.specs.Devices.{Writer}
use Rattle.run_parts.specs.RunErrors.{run_error, brief_error}
use Rattle.run_parts.specs.Runs.{Readings, Halts, DueReports, Stops, unwritten, writing}
use Rattle.run_parts.specs.Writing.{WritingStops}
use Rattle.run_parts.specs.declared.errors.RunError.{RunError}
use Rattle.run_parts.specs.declared.errors.RunError.TheVariants as error
use Rattle.run_parts.specs.declared.runs.Status.{Status}
use Rattle.run_parts.specs.declared.runs.Status.TheVariants.{Good}
use Rattle.spellings.proofs.CanonicalSpelling.{spelled}

pub prints : (text slice : List ℕ) (plan : Contents) → IsWithinLimits plan → slice ≡ text → Spells slice plan → Printed text (plan_text plan) Good
prints text slice plan limits same said = record {
  plan = plan;
  spelled = subst (λ (t : List ℕ). Spells t plan) same said;
  canonical = refl;
  read_back = spelled plan limits;
  good = refl;
}

pub expands : (text slice : List ℕ) (plan : Contents) → IsWithinLimits plan → slice ≡ text → Means slice plan → Expanded text (plan_text plan) Good
expands text slice plan limits same meant = record {
  plan = plan;
  meant = subst (λ (t : List ℕ). Means t plan) same meant;
  canonical = refl;
  read_back = spelled plan limits;
  good = refl;
}

module _ {In Texts Out : Type 0} (Reads : Readings In Texts) (Due : DueReports Texts) (writer : Writer Out) (halts : Halts In) (input : In) (output : Out) (input_now : In) (texts : Texts) (read : Reads input texts input_now) (report : List ℕ) (status : Status) (due : Due texts report status) (output_now : Out) where
  -- a run that ends as print_found stops out of memory with nothing written, or where the writer stops
  pub found_stops : (r : Result Status RunError) → halts input error.NoMemory input_now → IfErr r (λ e. ((e ≡ error.NoMemory) × (output_now ≡ output)) ⊎ WritingStops writer output report e output_now) → IfErr r (λ e. Stops Reads Due writer halts input output e input_now output_now)
  found_stops (Ok it) halted h = tt
  found_stops (Err e) halted (inl gone) = subst (λ o. Stops Reads Due writer halts input output e input_now o) (sym gone.1) (subst (λ x. Stops Reads Due writer halts input output x input_now output) (sym gone.0) (unwritten halted))
  found_stops (Err e) halted (inr h) = writing read due h

pub abbreviates : (text slice report bytes : List ℕ) (plan : Contents) → slice ≡ text → bytes ≡ report → Spells slice plan → has_brief_word plan ≡ false → Means report plan → Abbreviated text bytes Good
abbreviates text slice report bytes plan same same_report spelled sayable meant = record {
  plan = plan;
  spelled = subst (λ (t : List ℕ). Spells t plan) same spelled;
  sayable = sayable;
  meant = subst (λ (t : List ℕ). Means t plan) (sym same_report) meant;
  good = refl;
}

pub refuses_brief : (text : List ℕ) (e : PlanError) → (e ≡ plan.NoMemory) ⊎ IsRefused text e → RefusesBrief text (run_error e)
refuses_brief text plan.NoMemory h = tt
refuses_brief text e (inl same) = cc
refuses_brief text e (inr first) = first

pub refuses_plan_to_brief : (text : List ℕ) (e : PlanError) → (e ≡ plan.NoMemory) ⊎ First text e → GivesNoBrief text (run_error e)
refuses_plan_to_brief text plan.NoMemory h = tt
refuses_plan_to_brief text e (inl same) = cc
refuses_plan_to_brief text e (inr first) = first

pub gives_no_brief : (text slice : List ℕ) (plan : Contents) (e : NoBrief) → slice ≡ text → Spells slice plan → (e ≡ cause.NoMemory) ⊎ LacksBrief plan e → GivesNoBrief text (brief_error e)
gives_no_brief text slice plan cause.NoMemory same spelled h = tt
gives_no_brief text slice plan cause.Name same spelled (inl gone) = cc
gives_no_brief text slice plan cause.Name same spelled (inr why) = (plan, subst (λ (t : List ℕ). Spells t plan) same spelled, why)
