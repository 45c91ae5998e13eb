-- What the parts of a plan name stands in it.
use Rattle.std.proofs.Common.{◌≡◌, ℕ, zero, suc, ◌<◌, Some, List, [], ◌∷◌, length, slice_get, subst}
use Rattle.std.specs.List.{All, AllByRecursion}
use Rattle.std.specs.Map.{values_of}
use Rattle.std.proofs.lemmas.List.Elements.{recursion_from_All}
use Rattle.plan_core.specs.declared.plans.Plan.{Plan}
use Rattle.plan_core.specs.PlanContents.{plan_contents}
use Rattle.plan_core.proofs.PlanLemmas.{limits_of}

pub holds_at : {X : Type 0} (P : X → Type 0) (xs : List X) (k : ℕ) (x : X) → AllByRecursion P xs → slice_get xs k ≡ Some x → P x
holds_at P [] k x h e = cc
holds_at P (y ∷ xs) zero x h e = let d : y ≡ x = cc in subst P d h.0
holds_at P (y ∷ xs) (suc k) x h e = holds_at P xs k x h.1 e

value_holds_at : (P : List ℕ → Type 0) (xs : List (List ℕ × List ℕ)) (k : ℕ) (v : List ℕ) → AllByRecursion (λ c. P c.1) xs → slice_get (values_of xs) k ≡ Some v → P v
value_holds_at P [] k v h e = cc
value_holds_at P (x ∷ xs) zero v h e = let d : x.1 ≡ v = cc in subst P d h.0
value_holds_at P (x ∷ xs) (suc k) v h e = value_holds_at P xs k v h.1 e

pub messages_known : (plan : Plan) (k : ℕ) (ms : List ℕ) → slice_get (values_of (plan_contents plan).controllers) k ≡ Some ms → All (λ m. m < length (plan_contents plan).messages) ms
messages_known plan k ms e =
    let P : List ℕ → Type 0 = All (λ m. m < length (plan_contents plan).messages) in
    value_holds_at P (plan_contents plan).controllers k ms (recursion_from_All (λ c. P c.1) (plan_contents plan).controllers (limits_of plan).controllers.known) e
