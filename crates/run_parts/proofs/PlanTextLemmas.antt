-- What a run knows of a plan text that is refused, and of one that is not.
use Rattle.std.proofs.Common.{◌≡◌, ◌⊎◌, List, ℕ, inl, inr, subst}
use Rattle.plan_core.specs.Contents.{Contents}
use Rattle.plan_text.specs.Grammar.{Spells}
use Rattle.plan_text.specs.Refusals.{First}
use Rattle.plan_text.specs.declared.errors.PlanError.{PlanError}
use Rattle.plan_text.specs.declared.errors.PlanError.TheVariants as plan
use Rattle.run_parts.specs.PlanTexts.{RefusesPlan, SpellsPlan}
use Rattle.run_parts.specs.RunErrors.{run_error}

pub refuses_plan : (text : List ℕ) (e : PlanError) → (e ≡ plan.NoMemory) ⊎ First text e → RefusesPlan text (run_error e)
refuses_plan text plan.NoMemory h = tt
refuses_plan text e (inl same) = cc
refuses_plan text e (inr first) = first

pub spells_plan : (text slice : List ℕ) (plan : Contents) → slice ≡ text → Spells slice plan → SpellsPlan text
spells_plan text slice plan same spelled = (plan, subst (λ (t : List ℕ). Spells t plan) same spelled)
