-- What is right is answered: a text has one reading, and what was answered is right.
use Rattle.std.proofs.Common.{◌≡◌, ℕ, List, ◌⊎◌, inl, inr, refl, sym, ◌∙◌}
use Rattle.std.specs.Prelude.{Result, Ok, Err, IfOk, IfErr, MatchResult}
use Rattle.plan_core.specs.Contents.{Contents}
use Rattle.plan_core.specs.PlanContents.{plan_contents}
use Rattle.plan_core.specs.declared.plans.Plan.{Plan}
use Rattle.plan_text.specs.declared.errors.PlanError.{PlanError}
use Rattle.plan_text.specs.declared.errors.PlanError.TheVariants.{NoMemory}
use Rattle.plan_text.specs.declared.places.Refused.{Refused}
use Rattle.plan_text.specs.Grammar.{Spells}
use Rattle.plan_text.specs.Refusals.{First}
use Rattle.plan_text.specs.Reader.{text_read}
use Rattle.plan_text.proofs.RefusedLemmas.{first_same, spelled_not_refused}
use Rattle.plan_text.proofs.TakesLemmas.{ok_is}
use Rattle.plan_text.proofs.TextLemmas.{text_takes, text_again}

pub one_plan : (text : List ℕ) (p q : Contents) → Spells text p → Spells text q → p ≡ q
one_plan text p q s r = ok_is p q (sym (text_again text p s) ∙ text_again text q r)

-- a text spells a plan, or it has a first refusal
pub answered : (text : List ℕ) → ((plan : Contents) × Spells text plan) ⊎ ((e : PlanError) × First text e)
answered text = by_result (text_read text) refl
  where
    by_result : (r : Result Contents PlanError) → text_read text ≡ r → ((plan : Contents) × Spells text plan) ⊎ ((e : PlanError) × First text e)
    by_result (Ok plan) h = inl (plan, text_takes text plan h)
    by_result (Err e) h = inr (e, h)

module _ (text : List ℕ) where
  pub spelled : (r : Result Plan Refused) → IfOk r (λ p. text_read text ≡ Ok (plan_contents p)) → IfOk r (λ p. Spells text (plan_contents p))
  spelled (Ok p) h = text_takes text (plan_contents p) h
  spelled (Err e) h = tt

  pub plans : (r : Result Plan Refused) → IfOk r (λ p. text_read text ≡ Ok (plan_contents p)) → IfErr r (λ e. (e.error ≡ NoMemory) ⊎ First text e.error)
      → (plan : Contents) → Spells text plan → MatchResult r (λ it. plan_contents it ≡ plan) (λ e. e.error ≡ NoMemory)
  plans (Ok p) read refused plan s = ok_is (plan_contents p) plan (sym read ∙ text_again text plan s)
  plans (Err e) read (inl memory) plan s = memory
  plans (Err e) read (inr first) plan s = absurd (spelled_not_refused text plan e.error s first)

  pub refusals : (r : Result Plan Refused) → IfOk r (λ p. text_read text ≡ Ok (plan_contents p)) → IfErr r (λ e. (e.error ≡ NoMemory) ⊎ First text e.error)
      → (due : PlanError) → First text due → MatchResult r (λ it. ⊥) (λ e. (e.error ≡ NoMemory) ⊎ (e.error ≡ due))
  refusals (Ok p) read refused due f = spelled_not_refused text (plan_contents p) due (text_takes text (plan_contents p) read) f
  refusals (Err e) read (inl memory) due f = inl memory
  refusals (Err e) read (inr first) due f = inr (first_same text e.error due first f)
