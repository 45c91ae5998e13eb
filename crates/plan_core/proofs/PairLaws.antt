-- The pairs of a plan are its lawful sets of two.
use Rattle.std.proofs.Common.{◌≡◌, ◌≢◌, ◌⊎◌, inl, inr, ℕ, zero, suc, ◌+◌, ◌-◌, ◌<◌, ◌≤◌, ◌==◌, ◌||◌, ◌&&◌, Bool, true, false, not, cond, List, [], ◌∷◌, ◌++◌, length, get_or, map, filter, Option, Some, None, slice_get, refl, sym, ◌∙◌, ap, subst, arith}
use Rattle.std.specs.Prelude.{All, AllPairs, Contains}
use Rattle.std.specs.List.{range_with_len, flat_map, list_any}
use Rattle.std.proofs.lemmas.Bool.{eqb-true, eq-eqb, or_cases, cases_eq}
use Rattle.std.proofs.lemmas.Bool.Decides.{nat_tests}
use Rattle.std.proofs.lemmas.List.Elements.{All-nil, All-cons, All-head, All-tail, All-append, All-map, All-weaker}
use Rattle.std.proofs.lemmas.List.Kept.{AllPairs-cons, AllPairs-filter}
use Rattle.plan_core.specs.Contents.{Contents}
use Rattle.plan_core.specs.Lawful.{In, pair, IsPair}
use Rattle.plan_core.specs.Pairs.{partners, pairs_of, IsBefore}
use Rattle.plan_core.specs.Participants.{participant_count, participants_of, apart, same_controller, forbidden, one_controller, forbids_both, names_both}
use Rattle.plan_core.specs.declared.plans.Participant.{Participant}
use Rattle.plan_core.specs.declared.plans.Participant.TheVariants.{Sending, Interrupt}

-- z stands in the list
Member : {X : Type 0} → X → List X → Type 0
Member z [] = ⊥
Member z (x ∷ xs) = (x ≡ z) ⊎ Member z xs

Member-Contains : {X : Type 0} (z : X) (xs : List X) → Member z xs → Contains xs z
unfolding Member
Member-Contains z [] m = absurd m
Member-Contains z (x ∷ xs) (inl e) = (zero, omega arith, e)
Member-Contains z (x ∷ xs) (inr m) = let c = Member-Contains z xs m in (suc c.0, omega (arith, c.1), c.2)

Member-at : {X : Type 0} (z : X) (xs : List X) (k : ℕ) → k < length xs → get_or xs k z ≡ z → Member z xs
unfolding Member
Member-at z [] k h e = absurd (omega (arith, h))
Member-at z (y ∷ ys) zero h e = inl e
Member-at z (y ∷ ys) (suc k) h e = inr (Member-at z ys k (omega (arith, h)) e)

Contains-Member : {X : Type 0} (z : X) (xs : List X) → Contains xs z → Member z xs
Contains-Member z xs c = Member-at z xs c.0 c.1 c.2

Member-left : {X : Type 0} (z : X) (xs ys : List X) → Member z xs → Member z (xs ++ ys)
unfolding Member
Member-left z [] ys m = absurd m
Member-left z (x ∷ xs) ys (inl e) = inl e
Member-left z (x ∷ xs) ys (inr m) = inr (Member-left z xs ys m)

Member-right : {X : Type 0} (z : X) (xs ys : List X) → Member z ys → Member z (xs ++ ys)
unfolding Member
Member-right z [] ys m = m
Member-right z (x ∷ xs) ys m = inr (Member-right z xs ys m)

Member-cases : {X : Type 0} (z : X) (xs ys : List X) → Member z (xs ++ ys) → Member z xs ⊎ Member z ys
unfolding Member
Member-cases z [] ys m = inr m
Member-cases z (x ∷ xs) ys (inl e) = inl (inl e)
Member-cases z (x ∷ xs) ys (inr m) = elim (Member-cases z xs ys m) [ inl l ↦ inl (inr l) | inr r ↦ inr r ]

Member-flat_map : {X Y : Type 0} (f : X → List Y) (z : Y) (x : X) (xs : List X) → Member x xs → Member z (f x) → Member z (flat_map f xs)
unfolding Member
Member-flat_map f z x [] m h = absurd m
Member-flat_map f z x (w ∷ ws) (inl e) h = Member-left z (f w) (flat_map f ws) (subst (λ v. Member z (f v)) (sym e) h)
Member-flat_map f z x (w ∷ ws) (inr m) h = Member-right z (f w) (flat_map f ws) (Member-flat_map f z x ws m h)

from_flat_map : {X Y : Type 0} (f : X → List Y) (z : Y) (xs : List X) → Member z (flat_map f xs) → (x : X) × Member x xs × Member z (f x)
unfolding Member
from_flat_map f z [] m = absurd m
from_flat_map f z (x ∷ xs) m =
    elim (Member-cases z (f x) (flat_map f xs) m) [
      | inl here ↦ (x, inl refl, here)
      | inr later ↦ let r = from_flat_map f z xs later in (r.0, inr r.1, r.2)
    ]

Member-map : {X Y : Type 0} (f : X → Y) (x : X) (xs : List X) → Member x xs → Member (f x) (map f xs)
unfolding Member
Member-map f x [] m = absurd m
Member-map f x (w ∷ ws) (inl e) = inl (ap f e)
Member-map f x (w ∷ ws) (inr m) = inr (Member-map f x ws m)

from_map : {X Y : Type 0} (f : X → Y) (z : Y) (xs : List X) → Member z (map f xs) → (x : X) × Member x xs × (f x ≡ z)
unfolding Member
from_map f z [] m = absurd m
from_map f z (x ∷ xs) (inl e) = (x, inl refl, e)
from_map f z (x ∷ xs) (inr m) = let r = from_map f z xs m in (r.0, inr r.1, r.2)

Member-filter : {X : Type 0} (p : X → Bool) (z : X) (xs : List X) → Member z xs → p z ≡ true → Member z (filter p xs)
unfolding Member
Member-filter p z [] m h = absurd m
Member-filter p z (x ∷ xs) (inl e) h = subst (λ b. Member z (cond b (x ∷ filter p xs) (filter p xs))) (sym (ap p e ∙ h)) (inl e)
Member-filter p z (x ∷ xs) (inr m) h = by (p x) (Member-filter p z xs m h)
  where
    by : (b : Bool) → Member z (filter p xs) → Member z (cond b (x ∷ filter p xs) (filter p xs))
    by true rest = inr rest
    by false rest = rest

from_filter : {X : Type 0} (p : X → Bool) (z : X) (xs : List X) → Member z (filter p xs) → Member z xs × (p z ≡ true)
unfolding Member
from_filter p z [] m = absurd m
from_filter p z (x ∷ xs) m = by (p x) refl m (from_filter p z xs)
  where
    by : (b : Bool) → p x ≡ b → Member z (cond b (x ∷ filter p xs) (filter p xs)) → (Member z (filter p xs) → Member z xs × (p z ≡ true)) → Member z (x ∷ xs) × (p z ≡ true)
    by true is (inl e) rest = (inl e, ap p (sym e) ∙ is)
    by true is (inr m) rest = (inr (rest m).0, (rest m).1)
    by false is m rest = (inr (rest m).0, (rest m).1)

Member-range : (a n z : ℕ) → a ≤ z → z < a + n → Member z (range_with_len a n)
unfolding Member
Member-range a zero z low high = absurd (omega (arith, low, high))
Member-range a (suc n) z low high =
    elim (cases_eq a z) [ inl e ↦ inl e | inr differ ↦ inr (Member-range (a + 1) n z (omega (arith, low, differ)) (omega (arith, high))) ]

from_range : (a n z : ℕ) → Member z (range_with_len a n) → (a ≤ z) × (z < a + n)
unfolding Member
from_range a zero z m = absurd m
from_range a (suc n) z (inl e) = (omega (arith, e), omega (arith, e))
from_range a (suc n) z (inr m) = let r = from_range (a + 1) n z m in (omega (arith, r.0), omega (arith, r.1))

not_true : (b : Bool) → not b ≡ true → b ≡ false
not_true true h = sym h
not_true false h = refl

-- what the list of pairs has
pub from_pairs : (plan : Contents) (x y : ℕ) → Contains (pairs_of plan) (x, y) → (x < y) × (y < participant_count plan) × (apart plan x y ≡ false)
unfolding pairs_of
from_pairs plan x y c =
    let n = participant_count plan in
    let row = from_flat_map (λ x. map (λ y. (x, y)) (partners plan x)) (x, y) (range_with_len 0 n) (Contains-Member (x, y) (pairs_of plan) c) in
    let entry = from_map (λ y. (row.0, y)) (x, y) (partners plan row.0) row.2 in
    let first : row.0 ≡ x = ap (λ (p : ℕ × ℕ). p.0) entry.2 in
    let second : entry.0 ≡ y = ap (λ (p : ℕ × ℕ). p.1) entry.2 in
    let kept = from_filter (λ y. not (apart plan row.0 y)) entry.0 (range_with_len (row.0 + 1) (n - (row.0 + 1))) entry.1 in
    let within = from_range (row.0 + 1) (n - (row.0 + 1)) entry.0 kept.0 in
    (omega (arith, first, second, within), omega (arith, first, second, within), not_true (apart plan x y) ((λ i. not (apart plan (sym first i) (sym second i))) ∙ kept.1))

pub to_pairs : (plan : Contents) (x y : ℕ) → x < y → y < participant_count plan → apart plan x y ≡ false → Contains (pairs_of plan) (x, y)
unfolding pairs_of
to_pairs plan x y lt within free =
    let n = participant_count plan in
    Member-Contains (x, y) (pairs_of plan)
    (Member-flat_map (λ x. map (λ y. (x, y)) (partners plan x)) (x, y) x (range_with_len 0 n) (Member-range 0 n x (omega arith) (omega arith))
    (Member-map (λ y. (x, y)) y (partners plan x) (Member-filter (λ y. not (apart plan x y)) y (range_with_len (x + 1) (n - (x + 1))) (Member-range (x + 1) (n - (x + 1)) y (omega arith) (omega arith)) (ap not free))))

-- two are apart in either order
names_both-either : (c d : ℕ) (never : ℕ × ℕ) → names_both c d never ≡ names_both d c never
names_both-either c d never = or_either (never.0 == c && never.1 == d) (never.0 == d && never.1 == c)
  where
    or_either : (a b : Bool) → (a || b) ≡ (b || a)
    or_either true true = refl
    or_either true false = refl
    or_either false true = refl
    or_either false false = refl

is_never-either : (c d : ℕ) (nevers : List (ℕ × ℕ)) → list_any (names_both c d) nevers ≡ list_any (names_both d c) nevers
is_never-either c d [] = refl
is_never-either c d (n ∷ nevers) = λ i. names_both-either c d n i || is_never-either c d nevers i

apart-either_of : (nevers : List (ℕ × ℕ)) (p q : Option Participant) → (one_controller p q || forbids_both nevers p q) ≡ (one_controller q p || forbids_both nevers q p)
apart-either_of nevers None None = refl
apart-either_of nevers None (Some (Sending d n)) = refl
apart-either_of nevers None (Some (Interrupt k)) = refl
apart-either_of nevers (Some (Sending c m)) None = refl
apart-either_of nevers (Some (Interrupt k)) None = refl
apart-either_of nevers (Some (Interrupt k)) (Some (Interrupt j)) = refl
apart-either_of nevers (Some (Interrupt k)) (Some (Sending d n)) = refl
apart-either_of nevers (Some (Sending c m)) (Some (Interrupt k)) = refl
apart-either_of nevers (Some (Sending c m)) (Some (Sending d n)) = λ i. (let e : (c == d) ≡ (d == c) = grind (arith, nat_tests) in e i) || is_never-either c d nevers i

pub apart-either : (plan : Contents) (x y : ℕ) → apart plan x y ≡ apart plan y x
unfolding same_controller forbidden
apart-either plan x y = apart-either_of plan.nevers (slice_get (participants_of plan) x) (slice_get (participants_of plan) y)

-- the members of a set of two
in_pair : (x y p : ℕ) → In p (pair x y) → (p ≡ x) ⊎ (p ≡ y)
in_pair x y p m = elim (or_cases (p == x) (p == y) m) [ inl e ↦ inl (eqb-true p x e) | inr e ↦ inr (eqb-true p y e) ]

first_in : (x y : ℕ) → In x (pair x y)
first_in x y = ap (λ b. b || (x == y)) (eq-eqb x x refl)

second_in : (x y : ℕ) → In y (pair x y)
second_in x y = ap (λ b. (y == x) || b) (eq-eqb y y refl) ∙ or_true (y == x)
  where
    or_true : (b : Bool) → (b || true) ≡ true
    or_true true = refl
    or_true false = refl

pub IsPair-from_parts : (plan : Contents) (x y : ℕ) → x < y → y < participant_count plan → apart plan x y ≡ false → IsPair plan x y
IsPair-from_parts plan x y lt within free = (
  lt,
  record {
    some = (x, first_in x y);
    participants = λ p m. elim (in_pair x y p m) [ inl e ↦ omega (arith, e, lt, within) | inr e ↦ omega (arith, e, within) ];
    together = λ p q differ mp mq. by p q differ (in_pair x y p mp) (in_pair x y q mq);
  },
)
  where
    by : (p q : ℕ) → p ≢ q → (p ≡ x) ⊎ (p ≡ y) → (q ≡ x) ⊎ (q ≡ y) → apart plan p q ≡ false
    by p q differ (inl a) (inl b) = absurd (differ (a ∙ sym b))
    by p q differ (inl a) (inr b) = (λ i. apart plan (a i) (b i)) ∙ free
    by p q differ (inr a) (inl b) = (λ i. apart plan (a i) (b i)) ∙ apart-either plan y x ∙ free
    by p q differ (inr a) (inr b) = absurd (differ (a ∙ sym b))

pub parts_of_IsPair : (plan : Contents) (x y : ℕ) → IsPair plan x y → (x < y) × (y < participant_count plan) × (apart plan x y ≡ false)
parts_of_IsPair plan x y is = (is.0, is.1.participants y (second_in x y), is.1.together x y (λ e. omega (arith, e, is.0)) (first_in x y) (second_in x y))

-- lists in order, one after the other
AllPairs-first : {X : Type 0} (R : X → X → Type 0) (x : X) (xs : List X) → AllPairs R (x ∷ xs) → All (R x) xs
AllPairs-first R x xs pairs k d h = pairs 0 (suc k) d (omega arith) (omega (arith, h))

AllPairs-rest : {X : Type 0} (R : X → X → Type 0) (x : X) (xs : List X) → AllPairs R (x ∷ xs) → AllPairs R xs
AllPairs-rest R x xs pairs i j d lt h = pairs (suc i) (suc j) d (omega (arith, lt)) (omega (arith, h))

pub AllPairs-append : {X : Type 0} (R : X → X → Type 0) (xs ys : List X) → AllPairs R xs → AllPairs R ys → All (λ x. All (R x) ys) xs → AllPairs R (xs ++ ys)
AllPairs-append R [] ys p q across = q
AllPairs-append R (x ∷ xs) ys p q across =
    AllPairs-cons R x (xs ++ ys) (All-append (R x) xs ys (AllPairs-first R x xs p) (All-head (λ x. All (R x) ys) x xs across))
    (AllPairs-append R xs ys (AllPairs-rest R x xs p) q (All-tail (λ x. All (R x) ys) x xs across))

pub AllPairs-map : {X Y : Type 0} (R : Y → Y → Type 0) (f : X → Y) (xs : List X) → AllPairs (λ x y. R (f x) (f y)) xs → AllPairs R (map f xs)
AllPairs-map R f [] p = λ i j d lt h. absurd (omega (arith, h))
AllPairs-map R f (x ∷ xs) p =
    AllPairs-cons R (f x) (map f xs) (All-map (R (f x)) f xs (AllPairs-first (λ x y. R (f x) (f y)) x xs p)) (AllPairs-map R f xs (AllPairs-rest (λ x y. R (f x) (f y)) x xs p))

-- a range rises
range_above : (b a n : ℕ) → b ≤ a → All (λ x. b ≤ x) (range_with_len a n)
range_above b a zero le = All-nil (λ x. b ≤ x)
range_above b a (suc n) le = All-cons (λ x. b ≤ x) a (range_with_len (a + 1) n) le (range_above b (a + 1) n (omega (arith, le)))

pub range_rises : (a n : ℕ) → AllPairs (λ x y. x < y) (range_with_len a n)
range_rises a zero = λ i j d lt h. absurd (omega (arith, h))
range_rises a (suc n) = AllPairs-cons (λ x y. x < y) a (range_with_len (a + 1) n) (All-weaker (λ x. a + 1 ≤ x) (λ x. a < x) (λ x h. omega (arith, h)) (range_with_len (a + 1) n) (range_above (a + 1) (a + 1) n (omega arith))) (range_rises (a + 1) n)

-- the pairs of one participant, and of those from a on
row : Contents → ℕ → List (ℕ × ℕ)
row plan x = map (λ y. (x, y)) (partners plan x)

row_is : (plan : Contents) (x : ℕ) → All (λ (p : ℕ × ℕ). p.0 ≡ x) (row plan x)
unfolding row
row_is plan x = All-map (λ (p : ℕ × ℕ). p.0 ≡ x) (λ y. (x, y)) (partners plan x) (λ k d h. refl)

row_rises : (plan : Contents) (x : ℕ) → AllPairs IsBefore (row plan x)
unfolding row
row_rises plan x =
    let n = participant_count plan - (x + 1) in
    let kept = AllPairs-filter (λ (y z : ℕ). y < z) (λ y. not (apart plan x y)) (range_with_len (x + 1) n) (range_rises (x + 1) n) in
    AllPairs-map IsBefore (λ y. (x, y)) (partners plan x) (λ i j d lt h. inr (refl, kept i j d lt h))

rows_above : (plan : Contents) (b a n : ℕ) → b ≤ a → All (λ (p : ℕ × ℕ). b ≤ p.0) (flat_map (row plan) (range_with_len a n))
rows_above plan b a zero le = All-nil (λ (p : ℕ × ℕ). b ≤ p.0)
rows_above plan b a (suc n) le =
    All-append (λ (p : ℕ × ℕ). b ≤ p.0) (row plan a) (flat_map (row plan) (range_with_len (a + 1) n))
    (All-weaker (λ (p : ℕ × ℕ). p.0 ≡ a) (λ (p : ℕ × ℕ). b ≤ p.0) (λ p e. omega (arith, e, le)) (row plan a) (row_is plan a))
    (rows_above plan b (a + 1) n (omega (arith, le)))

rows_rise : (plan : Contents) (a n : ℕ) → AllPairs IsBefore (flat_map (row plan) (range_with_len a n))
rows_rise plan a zero = λ i j d lt h. absurd (omega (arith, h))
rows_rise plan a (suc n) =
    let later = flat_map (row plan) (range_with_len (a + 1) n) in
    AllPairs-append IsBefore (row plan a) later (row_rises plan a) (rows_rise plan (a + 1) n)
    (All-weaker (λ (p : ℕ × ℕ). p.0 ≡ a) (λ p. All (IsBefore p) later)
    (λ p e. All-weaker (λ (q : ℕ × ℕ). a + 1 ≤ q.0) (IsBefore p) (λ q h. inl (omega (arith, e, h))) later (rows_above plan (a + 1) (a + 1) n (omega arith)))
    (row plan a) (row_is plan a))

pub pairs_rise : (plan : Contents) → AllPairs IsBefore (pairs_of plan)
unfolding pairs_of row
pairs_rise plan = rows_rise plan 0 (participant_count plan)
