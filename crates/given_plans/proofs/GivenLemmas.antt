-- A text that is a plan text, or a brief, or neither.
use Rattle.std.proofs.Common.{◌≡◌, ◌⊎◌, ℕ, List, true, false, inl, inr, ap, sym, subst, ◌∙◌, Result, Ok, Err, IfErr, IfSome, IsErrAnd}
use Rattle.plan_core.specs.Contents.{Contents}
use Rattle.plan_text.specs.Places.{Refuses}
use Rattle.plan_text.specs.Reader.{◌>>=◌}
use Rattle.plan_text.specs.Refusals.{First}
use Rattle.plan_text.specs.declared.errors.PlanError.{PlanError}
use Rattle.plan_text.specs.declared.errors.PlanError.TheVariants as plan
use Rattle.brief_text.specs.Briefs.{Means, IsRefused, text_read, brief_read}
use Rattle.brief_text.specs.Drafts.{Draft, no_items}
use Rattle.brief_text.specs.Splitting.{plan_meant}
use Rattle.given_plans.specs.Given.{IsNeither, no_second, no_plan, no_brief, no_head, RefusesGiven, RefusesFurther, begins_second, is_version}
use Rattle.given_plans.specs.declared.plans.Halted.{Halted}
use Rattle.given_plans.specs.declared.plans.RefusedText.{RefusedText}
use Rattle.given_plans.specs.declared.plans.Refusal.{Refusal}
use Rattle.run_parts.specs.declared.errors.RunError.{RunError}
use Rattle.run_parts.specs.RunErrors.{run_error}

pub refuses_given : (text : List ℕ) (e : PlanError) → (e ≡ plan.NoMemory) ⊎ IsNeither text e → RefusesGiven text (run_error e)
refuses_given text plan.NoMemory h = tt
refuses_given text e (inl same) = cc
refuses_given text e (inr first) = first

pub second_refused : {X : Type 0} (r : Result X Refusal) (text : List ℕ) → IfErr r (λ e. (e.refused.error ≡ plan.NoMemory) ⊎ IsRefused text e.refused.error) → begins_second text ≡ true
    → IfErr r (λ e. (e.refused.error ≡ plan.NoMemory) ⊎ IsNeither text e.refused.error)
second_refused (Ok x) text refused second = tt
second_refused (Err e) text (inl none) second = inl none
second_refused (Err e) text (inr refused) second = inr (no_second second refused)

pub plan_refused : (text : List ℕ) (e : PlanError) → (e ≡ plan.NoMemory) ⊎ First text e → begins_second text ≡ false → is_version e ≡ false → (e ≡ plan.NoMemory) ⊎ IsNeither text e
plan_refused text e (inl none) other version = inl none
plan_refused text e (inr first) other version = inr (no_plan other first version)

pub brief_refused : (text : List ℕ) (head e : PlanError) → (e ≡ plan.NoMemory) ⊎ IsRefused text e → is_version e ≡ false → is_version head ≡ true → First text head → (e ≡ plan.NoMemory) ⊎ IsNeither text e
brief_refused text head e (inl none) other at_head first = inl none
brief_refused text head e (inr refused) other at_head first = inr (no_brief first at_head refused other)

pub head_refused : (text : List ℕ) (head e : PlanError) → (e ≡ plan.NoMemory) ⊎ IsRefused text e → is_version e ≡ true → is_version head ≡ true → First text head → (head ≡ plan.NoMemory) ⊎ IsNeither text head
head_refused text head plan.NoMemory (inl none) version at_head first = cc
head_refused text head e (inl none) version at_head first = cc
head_refused text head e (inr refused) version at_head first = inr (no_head first at_head refused version)

-- ---- one brief, and a further one

pub means_read : (text : List ℕ) (draft after : Draft) (plan : Contents) → draft ≡ no_items → text_read draft text ≡ Ok after → plan ≡ plan_meant after → Means text plan
unfolding brief_read
means_read text draft after plan none read same =
    ap (λ (r : Result Draft PlanError). r >>= λ draft. Ok (plan_meant draft)) (ap (λ (d : Draft). text_read d text) (sym none) ∙ read) ∙ ap Ok (sym same)

pub refuses_further : (draft : Draft) (text : List ℕ) (e : PlanError) → Refuses (text_read draft text) e → RefusesFurther draft text (run_error e)
refuses_further draft text plan.NoMemory h = tt
refuses_further draft text e (inl same) = cc
refuses_further draft text e (inr first) = first

-- what holds of an error holds where the call answers that error
pub on_halted : {X : Type 0} (r : Result X Halted) (error : RunError) (P : RunError → Type 0) → IsErrAnd r (λ e. (e.error ≡ error) × IfSome e.text (λ (it : RefusedText). ⊥)) → P error → IfErr r (λ e. P e.error)
on_halted (Ok x) error P h p = tt
on_halted (Err e) error P h p = subst P (sym h.0) p

-- the same where the call answers that error alone
pub if_error : {X : Type 0} (r : Result X Halted) (error : RunError) (P : RunError → Type 0) → IfErr r (λ e. e.error ≡ error) → P error → IfErr r (λ e. P e.error)
if_error (Ok x) error P h p = tt
if_error (Err e) error P h p = subst P (sym h) p
