-- The fields of a word: each counts the puts that it is for.
use Rattle.std.proofs.Common.{◌≡◌, ℕ, ◌+◌, ◌*◌, ◌/◌, ◌<◌, ◌≤◌, inl, inr, Bool, true, false, if◌then◌else◌, ◌==◌, Option, Some, None, List, [], ◌∷◌, length, slice_get, refl, ap, ◌∙◌, arith}
use Rattle.std.proofs.lemmas.Bool.Decides.{nat_tests}
use Rattle.std.proofs.lemmas.List.Sums.{sum_by-cons, count_by-le-length}
use Rattle.std.specs.List.{count_by}
use Rattle.plan_core.specs.Lawful.{In}
use Rattle.plays.specs.declared.puts.Put.{Put}
use Rattle.plays.specs.declared.puts.Put.TheVariants.{Drive, Listen, Again, Stop, Claim}
use Rattle.plays.specs.declared.tally.TheConstants.{ZERO, AGAIN, STOP, LISTEN, CLAIM}
use Rattle.plays.specs.Games.{those}
use Rattle.plays.specs.Plays.{Puts}
use Rattle.plays.specs.Words.{contribution_of, word_of, arrivals_in, zeros_in, field}
use Rattle.plays.proofs.PlayLemmas.{or_true}
use Rattle.plays.proofs.WordLemmas.{first_in, later_in}

-- ---- counts of those in a list

tally : Bool → ℕ
tally b = if b then 1 else 0

count_cons : (f : ℕ → Bool) (y : ℕ) (ys : List ℕ) → count_by f (y ∷ ys) ≡ tally (f y) + count_by f ys
unfolding tally
count_cons f y ys = sum_by-cons (λ (p : ℕ). if f p then 1 else 0) y ys

pub count_same : (f g : ℕ → Bool) (xs : List ℕ) → ((p : ℕ) → In p (those xs) → f p ≡ g p) → count_by f xs ≡ count_by g xs
count_same f g [] h = refl
count_same f g (y ∷ ys) h =
    let head : tally (f y) ≡ tally (g y) = ap tally (h y (first_in y ys)) in
    let tail : count_by f ys ≡ count_by g ys = count_same f g ys (λ p i. h p (later_in y ys p i)) in
    omega (arith, head, tail, count_cons f y ys, count_cons g y ys)

pub count_none : (f : ℕ → Bool) (xs : List ℕ) → ((p : ℕ) → In p (those xs) → f p ≡ false) → count_by f xs ≡ 0
unfolding tally
count_none f [] h = refl
count_none f (y ∷ ys) h =
    let head : tally (f y) ≡ 0 = ap tally (h y (first_in y ys)) in
    omega (arith, head, count_none f ys (λ p i. h p (later_in y ys p i)), count_cons f y ys)

pub count_some : (f : ℕ → Bool) (xs : List ℕ) (q : ℕ) → In q (those xs) → f q ≡ true → 0 < count_by f xs
unfolding tally
count_some f [] q i e = cc
count_some f (y ∷ ys) q i e = elim (or_true (y == q) (those ys q) i) [
  | inl same ↦
      let d : y ≡ q = grind (arith, nat_tests) in
      let head : tally (f y) ≡ 1 = ap tally (ap f d ∙ e) in
      omega (arith, head, count_cons f y ys)
  | inr later ↦ omega (arith, count_some f ys q later e, count_cons f y ys)
]

tally_le : (a b : Bool) → (a ≡ true → b ≡ true) → tally a ≤ tally b
unfolding tally
tally_le true true h = omega arith
tally_le true false h = let k : false ≡ true = h refl in cc
tally_le false true h = omega arith
tally_le false false h = omega arith

pub count_le : (f g : ℕ → Bool) (xs : List ℕ) → ((p : ℕ) → In p (those xs) → f p ≡ true → g p ≡ true) → count_by f xs ≤ count_by g xs
count_le f g [] h = omega arith
count_le f g (y ∷ ys) h =
    let head = tally_le (f y) (g y) (h y (first_in y ys)) in
    let tail : count_by f ys ≤ count_by g ys = count_le f g ys (λ p i. h p (later_in y ys p i)) in
    omega (arith, head, tail, count_cons f y ys, count_cons g y ys)

pub count_less : (f g : ℕ → Bool) (xs : List ℕ) (q : ℕ) → ((p : ℕ) → In p (those xs) → f p ≡ true → g p ≡ true) → In q (those xs) → f q ≡ false → g q ≡ true → count_by f xs < count_by g xs
unfolding tally
count_less f g [] q h i a b = cc
count_less f g (y ∷ ys) q h i a b = elim (or_true (y == q) (those ys q) i) [
  | inl same ↦
      let d : y ≡ q = grind (arith, nat_tests) in
      let none : tally (f y) ≡ 0 = ap tally (ap f d ∙ a) in
      let one : tally (g y) ≡ 1 = ap tally (ap g d ∙ b) in
      let tail : count_by f ys ≤ count_by g ys = count_le f g ys (λ p j. h p (later_in y ys p j)) in
      omega (arith, none, one, tail, count_cons f y ys, count_cons g y ys)
  | inr later ↦
      let head = tally_le (f y) (g y) (h y (first_in y ys)) in
      let tail = count_less f g ys q (λ p j. h p (later_in y ys p j)) later a b in
      omega (arith, head, tail, count_cons f y ys, count_cons g y ys)
]

-- ---- tests on puts

unfoldable pub any_put : Put → Bool
any_put x = true

-- the field in which a put counts besides the first, from the low end on; that of a 1 is the first itself
unfoldable pub field_of : Put → ℕ
field_of (Drive true) = 0
field_of (Drive false) = 1
field_of Again = 2
field_of Stop = 3
field_of Listen = 4
field_of Claim = 5

unfoldable pub counts_in : ℕ → Put → Bool
counts_in n x = field_of x == n

-- a test of what is put, if anything
unfoldable pub passes : (Put → Bool) → Option Put → Bool
passes t None = false
passes t (Some x) = t x

-- how many of a list put in slot k what passes
unfoldable pub counted : (Put → Bool) → List ℕ → Puts → ℕ → ℕ
counted t xs puts k = count_by (λ p. passes t (slice_get (puts p) k)) xs

parts : (o : Option Put) → contribution_of o ≡ tally (passes any_put o) + ZERO * tally (passes (counts_in 1) o) + AGAIN * tally (passes (counts_in 2) o) + STOP * tally (passes (counts_in 3) o) + LISTEN * tally (passes (counts_in 4) o) + CLAIM * tally (passes (counts_in 5) o)
unfolding passes tally any_put counts_in field_of
parts None = refl
parts (Some (Drive true)) = refl
parts (Some (Drive false)) = refl
parts (Some Listen) = refl
parts (Some Again) = refl
parts (Some Stop) = refl
parts (Some Claim) = refl

counted_cons : (t : Put → Bool) (y : ℕ) (ys : List ℕ) (puts : Puts) (k : ℕ) → counted t (y ∷ ys) puts k ≡ tally (passes t (slice_get (puts y) k)) + counted t ys puts k
unfolding counted
counted_cons t y ys puts k = count_cons (λ p. passes t (slice_get (puts p) k)) y ys

pub word_is_counts : (xs : List ℕ) (puts : Puts) (k : ℕ) → word_of xs puts k ≡ counted any_put xs puts k + ZERO * counted (counts_in 1) xs puts k + AGAIN * counted (counts_in 2) xs puts k + STOP * counted (counts_in 3) xs puts k + LISTEN * counted (counts_in 4) xs puts k + CLAIM * counted (counts_in 5) xs puts k
unfolding counted
word_is_counts [] puts k = refl
word_is_counts (y ∷ ys) puts k =
    omega (
      arith,
      parts (slice_get (puts y) k),
      word_is_counts ys puts k,
      sum_by-cons (λ (p : ℕ). contribution_of (slice_get (puts p) k)) y ys,
      counted_cons any_put y ys puts k,
      counted_cons (counts_in 1) y ys puts k,
      counted_cons (counts_in 2) y ys puts k,
      counted_cons (counts_in 3) y ys puts k,
      counted_cons (counts_in 4) y ys puts k,
      counted_cons (counts_in 5) y ys puts k,
    )

-- ---- each field reads back

pub record Fields (word a z g s l c : ℕ) : Type 0 where
  pub arrivals : arrivals_in word ≡ a
  pub zeros : zeros_in word ≡ z
  pub agains : field AGAIN word ≡ g
  pub stops : field STOP word ≡ s
  pub listens : field LISTEN word ≡ l
  pub claims : field CLAIM word ≡ c

fields_of : (word a z g s l c : ℕ) → word ≡ a + ZERO * z + AGAIN * g + STOP * s + LISTEN * l + CLAIM * c →
    a ≤ 64 → z ≤ 64 → g ≤ 64 → s ≤ 64 → l ≤ 64 → c ≤ 64 → Fields word a z g s l c
fields_of word a z g s l c e ha hz hg hs hl hc =
    let q1 : word / 1024 ≡ z + 1024 * g + 1048576 * s + 1073741824 * l + 1099511627776 * c = omega arith in
    let q2 : word / 1048576 ≡ g + 1024 * s + 1048576 * l + 1073741824 * c = omega arith in
    let q3 : word / 1073741824 ≡ s + 1024 * l + 1048576 * c = omega arith in
    let q4 : word / 1099511627776 ≡ l + 1024 * c = omega arith in
    let q5 : word / 1125899906842624 ≡ c = omega arith in
    record { arrivals = omega arith; zeros = omega arith; agains = omega arith; stops = omega arith; listens = omega arith; claims = omega arith }

few_of : (t : Put → Bool) (xs : List ℕ) (puts : Puts) (k : ℕ) → length xs ≤ 64 → counted t xs puts k ≤ 64
unfolding counted
few_of t xs puts k few = omega (arith, count_by-le-length (λ p. passes t (slice_get (puts p) k)) xs)

pub fields : (xs : List ℕ) (puts : Puts) (k : ℕ) → length xs ≤ 64 → Fields (word_of xs puts k) (counted any_put xs puts k) (counted (counts_in 1) xs puts k) (counted (counts_in 2) xs puts k) (counted (counts_in 3) xs puts k) (counted (counts_in 4) xs puts k) (counted (counts_in 5) xs puts k)
fields xs puts k few =
    fields_of (word_of xs puts k) _ _ _ _ _ _ (word_is_counts xs puts k)
    (few_of any_put xs puts k few) (few_of (counts_in 1) xs puts k few) (few_of (counts_in 2) xs puts k few) (few_of (counts_in 3) xs puts k few) (few_of (counts_in 4) xs puts k few) (few_of (counts_in 5) xs puts k few)
