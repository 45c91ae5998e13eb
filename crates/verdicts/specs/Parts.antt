use Rattle.std.specs.Prelude.{◌≡◌, ℕ, List, [], map, All, IfOk, Result, Ok, Err}
use Rattle.pair_queue.specs.Seats.{Queue}
use Rattle.verdicts.specs.declared.parts.Found.{Found}
use Rattle.verdicts.specs.declared.parts.Job.{Job}
use Rattle.verdicts.specs.declared.parts.Part.{Part}

abbrev pub numbers_of : {X : Type 0} → List (Found X) → List ℕ
numbers_of found = map (λ f. f.number) found

module _ {X : Type 0} (gives : ℕ → X → Type 0) where
  -- what was found of just these numbers, in this order, each as `gives` says
  abbrev pub IsFoundOf : List ℕ → List (Found X) → Type 0
  IsFoundOf numbers found = (numbers_of found ≡ numbers) × All (λ f. gives f.number f.value) found

  -- the thief is of this queue, and what was found is what it took
  pub record IsPart (queue : Queue) (p : Part X) : Type 0 where
    pub queue_is : p.thief.queue ≡ queue
    pub found : IfOk p.found (λ v. IsFoundOf p.thief.taken v.items)

-- the thief is of this queue, and has taken nothing
abbrev pub IsJob : Queue → Job → Type 0
IsJob queue job = (job.thief.queue ≡ queue) × (job.thief.taken ≡ [])

-- the same as `IsPart` of the numbers alone
pub record HasNumbers {X : Type 0} (queue : Queue) (p : Part X) : Type 0 where
  pub queue_is : p.thief.queue ≡ queue
  pub numbers : IfOk p.found (λ v. numbers_of v.items ≡ p.thief.taken)

module _ {X V E : Type 0} (items : V → List X) where
  abbrev pub items_or_none : Result V E → List X
  items_or_none (Ok v) = items v
  items_or_none (Err e) = []

-- what a part found, or nothing where an allocation failed
abbrev pub items_of : {X : Type 0} → Part X → List (Found X)
items_of p = items_or_none (λ v. v.items) p.found
