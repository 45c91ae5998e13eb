-- Tries of edits of the texts that give a plan.
use Rattle.std.specs.Prelude.{◌≡◌, ℕ, ◌-◌, List, length}
use Rattle.certificate.specs.declared.values.Fault.{Fault}
use Rattle.edits.specs.Edited.{edited_texts}
use Rattle.edits.specs.declared.replacing.Edit.{Edit}
use Rattle.given_plans.specs.Sources.{GiveThePlan}
use Rattle.mending.specs.Left.{AreLeft, MakesUnsafe}
use Rattle.offers.specs.declared.tries.Outcome.{Outcome}
use Rattle.plan_core.specs.Contents.{Contents}
use Rattle.plan_core.specs.Pairs.{pairs_of}
use Rattle.verdicts.specs.Faults.{AreFaults}

-- The edited plan makes no pair unsafe. The outcome says which unsafe pairs of the plan are left in it, how many pairs it has and
-- how many of these are unsafe, and how many pairs fewer it has.
pub record TriedOn (plan : Contents) (faults : List (ℕ × Fault)) (edited : Contents) (outcome : Outcome) : Type 0 where
  pub none_more : MakesUnsafe plan edited → ⊥
  pub left : AreLeft plan faults edited outcome.left.items
  pub pairs : outcome.pairs ≡ length (pairs_of edited)
  pub after : List (ℕ × Fault)
  pub are_after : AreFaults edited after
  pub unsafe_pairs : outcome.unsafe_pairs ≡ length after
  pub price : outcome.price ≡ length (pairs_of plan) - length (pairs_of edited)

-- with these edits the texts give such a plan
pub record IsTried (texts : List (List ℕ)) (plan : Contents) (faults : List (ℕ × Fault)) (edits : List Edit) (outcome : Outcome) : Type 0 where
  pub edited : Contents
  pub given : GiveThePlan (edited_texts texts edits) edited
  pub tried : TriedOn plan faults edited outcome
