-- Lists of views: what changes with one of them.
use Rattle.std.proofs.Common.{◌≡◌, ℕ, zero, suc, ◌+◌, ◌<◌, ◌≤◌, List, [], ◌∷◌, ◌++◌, length, set, sym, refl, ap, subst, inl, inr, ◌⊎◌, arith}
use mathlib.Core.Option.{some, some-injective, some-ne-none}
use lib.ListN.{get_elem?}
use Rattle.pair_queue.specs.declared.tickets.Hand.{Hand}
use Rattle.pair_queue.specs.Rule.{total, parts_of, ended_of}

abbrev pub At : List Hand → ℕ → Hand → Type 0
At views seat v = get_elem? views seat ≡ some v

pub total_set : (f : Hand → ℕ) (views : List Hand) (seat : ℕ) (v w : Hand) → At views seat v → total f (set views seat w) + f v ≡ total f views + f w
total_set f [] seat v w at = absurd (some-ne-none v (sym at))
total_set f (u ∷ views) zero v w at = let e : f u ≡ f v = ap f (some-injective u v at) in omega arith
total_set f (u ∷ views) (suc seat) v w at = let e = total_set f views seat v w at in omega arith

pub total_push : (f : Hand → ℕ) (views : List Hand) (v : Hand) → total f (views ++ v ∷ []) ≡ total f views + f v
total_push f [] v = omega arith
total_push f (u ∷ views) v = let e = total_push f views v in omega arith

pub at_below : (views : List Hand) (seat : ℕ) (v : Hand) → At views seat v → seat < length views
at_below [] seat v at = absurd (some-ne-none v (sym at))
at_below (u ∷ views) zero v at = omega arith
at_below (u ∷ views) (suc seat) v at = let e = at_below views seat v at in omega arith

pub at_push : (views : List Hand) (w v : Hand) (seat : ℕ) → At (views ++ w ∷ []) seat v → At views seat v ⊎ ((seat ≡ length views) × (w ≡ v))
at_push [] w v zero at = inr (refl, some-injective w v at)
at_push [] w v (suc seat) at = absurd (some-ne-none v (sym at))
at_push (u ∷ views) w v zero at = inl at
at_push (u ∷ views) w v (suc seat) at = elim (at_push views w v seat at) [ inl a ↦ inl a | inr b ↦ inr (ap suc b.0, b.1) ]

pub only : (views : List Hand) (seat : ℕ) (v : Hand) → length views ≡ 1 → At views seat v → (seat ≡ 0) × (views ≡ v ∷ [])
only [] seat v one at = absurd (omega arith)
only (u ∷ []) zero v one at = (refl, ap (λ (x : Hand). x ∷ []) (some-injective u v at))
only (u ∷ []) (suc seat) v one at = absurd (some-ne-none v (sym at))
only (u ∷ t ∷ views) seat v one at = absurd (omega arith)

pub at_only : (P : ℕ → Hand → Type 0) (w : Hand) → P 0 w → (seat : ℕ) (v : Hand) → At (w ∷ []) seat v → P seat v
at_only P w h zero v at = subst (P 0) (some-injective w v at) h
at_only P w h (suc seat) v at = absurd (some-ne-none v (sym at))

abbrev pub Each : (Hand → Type 0) → List Hand → Type 0
Each P views = (seat : ℕ) (v : Hand) → At views seat v → P v

each_rest : (P : Hand → Type 0) (u : Hand) (views : List Hand) → Each P (u ∷ views) → Each P views
each_rest P u views h = λ seat v at. h (suc seat) v at

no_more_ended : (views : List Hand) → Each (λ u. u.ended ≤ u.parts) views → ended_of views ≤ parts_of views
no_more_ended [] h = omega arith
no_more_ended (u ∷ views) h = let a : u.ended ≤ u.parts = h 0 u refl in let b = no_more_ended views (each_rest (λ x. x.ended ≤ x.parts) u views h) in omega arith

-- where a seat may still take an end mark, fewer were taken than there are
pub fewer_ended : (views : List Hand) (seat : ℕ) (v : Hand) → At views seat v → v.ended < v.parts → Each (λ u. u.ended ≤ u.parts) views → ended_of views < parts_of views
fewer_ended [] seat v at less h = absurd (some-ne-none v (sym at))
fewer_ended (u ∷ views) zero v at less h =
    let b = no_more_ended views (each_rest (λ x. x.ended ≤ x.parts) u views h) in
    let mine : u.ended < u.parts = subst (λ (x : Hand). x.ended < x.parts) (sym (some-injective u v at)) less in
    omega arith
fewer_ended (u ∷ views) (suc seat) v at less h =
    let a : u.ended ≤ u.parts = h 0 u refl in
    let b = fewer_ended views seat v at less (each_rest (λ x. x.ended ≤ x.parts) u views h) in
    omega arith

nothing : (f : Hand → ℕ) (views : List Hand) → parts_of views ≡ 0 → Each (λ u. u.parts ≡ 0 → f u ≡ 0) views → total f views ≡ 0
nothing f [] none h = refl
nothing f (u ∷ views) none h =
    let a : f u ≡ 0 = h 0 u refl (omega arith) in
    let b = nothing f views (omega arith) (each_rest (λ x. x.parts ≡ 0 → f x ≡ 0) u views h) in
    omega arith

-- the seat that has every part has everything
pub everything : (f : Hand → ℕ) (views : List Hand) (seat : ℕ) (v : Hand) → At views seat v → parts_of views ≡ v.parts → Each (λ u. u.parts ≡ 0 → f u ≡ 0) views → total f views ≡ f v
everything f [] seat v at all h = absurd (some-ne-none v (sym at))
everything f (u ∷ views) zero v at all h =
    let e = some-injective u v at in
    let p : u.parts ≡ v.parts = ap (λ (x : Hand). x.parts) e in
    let b = nothing f views (omega arith) (each_rest (λ x. x.parts ≡ 0 → f x ≡ 0) u views h) in
    let g : f u ≡ f v = ap f e in
    omega arith
everything f (u ∷ views) (suc seat) v at all h =
    let less = part_of_total views seat v at in
    let a : f u ≡ 0 = h 0 u refl (omega arith) in
    let b = everything f views seat v at (omega arith) (each_rest (λ x. x.parts ≡ 0 → f x ≡ 0) u views h) in
    omega arith
  where
    part_of_total : (views : List Hand) (seat : ℕ) (v : Hand) → At views seat v → v.parts ≤ parts_of views
    part_of_total [] seat v at = absurd (some-ne-none v (sym at))
    part_of_total (u ∷ views) zero v at = let e : u.parts ≡ v.parts = ap (λ (x : Hand). x.parts) (some-injective u v at) in omega arith
    part_of_total (u ∷ views) (suc seat) v at = let e = part_of_total views seat v at in omega arith
