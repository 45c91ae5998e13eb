-- A text has one first refusal at most, and none where it spells a plan.
use Rattle.std.proofs.Common.{◌≡◌, ℕ, List, sym, ◌∙◌}
use Rattle.std.specs.Prelude.{Result, Ok, Err}
use Rattle.plan_core.specs.Contents.{Contents}
use Rattle.plan_text.specs.declared.errors.PlanError.{PlanError}
use Rattle.plan_text.specs.Grammar.{Spells}
use Rattle.plan_text.specs.Refusals.{First}
use Rattle.plan_text.proofs.TextLemmas.{text_again}

abbrev refused : PlanError → Result Contents PlanError
refused e = Err e

abbrev given : Contents → Result Contents PlanError
given plan = Ok plan

pub first_same : (text : List ℕ) (e f : PlanError) → First text e → First text f → e ≡ f
first_same text e f x y = let is : refused e ≡ refused f = sym x ∙ y in cc

pub spelled_not_refused : (text : List ℕ) (plan : Contents) (e : PlanError) → Spells text plan → First text e → ⊥
spelled_not_refused text plan e s x = let is : given plan ≡ refused e = sym (text_again text plan s) ∙ x in absurd cc
