-- Lists of starters, and of what came back.
use Rattle.std.proofs.Common.{◌≡◌, ◌≢◌, ◌⊎◌, ℕ, zero, suc, ◌+◌, ◌<◌, ◌==◌, Bool, true, false, List, [], ◌∷◌, length, Some, refl, sym, ap, ◌∙◌, subst, arith, inl, inr, map, get_or, eqb}
use Rattle.std.specs.Prelude.{AllPairs, All, slice_get, cond, if◌then◌else◌}
use Rattle.std.specs.List.{slice_index_or, list_any}
use Rattle.std.proofs.lemmas.Bool.{cases_lt}
use Rattle.std.proofs.lemmas.Bool.{eqb-true}
use Rattle.std.proofs.lemmas.Bool.Decides.{Decides-eqb}
use Rattle.std.proofs.lemmas.List.{length-map}
use Rattle.std.proofs.lemmas.List.Elements.{All-cons}
use Rattle.std.proofs.lemmas.List.Folds.{Any-from_list_any}
use Rattle.std.proofs.lemmas.List.Kept.{AllPairs-cons}
use Rattle.std.proofs.lemmas.List.Sums.{sum_by-cons}
use Rattle.std.proofs.lemmas.Map.Made.{IsDistinct-from_AllPairs}
use Rattle.std.proofs.lemmas.Map.Steps.{length-le_from_distinct_below}
use Rattle.std.proofs.lemmas.Bool.Decides.{nat_tests}
use Rattle.plan_core.specs.Lawful.{Set, In}
use Rattle.plays.specs.Games.{Game, those}
use Rattle.bus_bench.specs.Hands.{starter}
use Rattle.plays.specs.Plays.{Puts}
use Rattle.bus_bench.specs.declared.hands.Told.{Told}
use Rattle.plays.specs.Words.{count_in}
use Rattle.bus_bench.specs.Steps.{puts_back}

pub one_or_other : (b : Bool) → (b ≡ true) ⊎ (b ≡ false)
one_or_other true = inl refl
one_or_other false = inr refl

here_or_later : (x y : ℕ) (xs : List ℕ) → In y (those xs) → In y (those (x ∷ xs))
here_or_later x y xs h = grind (arith, nat_tests)

-- what stands at a place of a list is in it
pub at_those : (xs : List ℕ) (k : ℕ) → k < length xs → In (slice_index_or xs k 0) (those xs)
at_those [] k lt = absurd (omega arith)
at_those (x ∷ xs) zero lt = grind (arith, nat_tests)
at_those (x ∷ xs) (suc k) lt = here_or_later x (slice_index_or xs k 0) xs (at_those xs k (omega arith))

-- no two places of a list without repetitions have one number
pub one_place : (xs : List ℕ) (i j : ℕ) → AllPairs ◌≢◌ xs → i < length xs → j < length xs → slice_index_or xs i 0 ≡ slice_index_or xs j 0 → i ≡ j
one_place xs i j once a b e =
    elim (cases_lt i j) [
      | inl lt ↦ absurd (once i j 0 lt b e)
      | inr le ↦ elim (cases_lt j i) [
        | inl lt ↦ absurd (once j i 0 lt a (sym e))
        | inr same ↦ omega arith
      ]
    ]

-- all of these are in the set
counted : (xs : List ℕ) (s : Set) → ((k : ℕ) → k < length xs → In (slice_index_or xs k 0) s) → count_in xs s ≡ length xs
counted [] s all = refl
counted (x ∷ xs) s all =
    let rest = counted xs s (λ k lt. all (suc k) (omega arith)) in
    let first : s x ≡ true = all 0 (omega arith) in
    let more : count_in (x ∷ xs) s ≡ cond (s x) 1 0 + count_in xs s = sum_by-cons (λ y. cond (s y) 1 0) x xs in
    more ∙ ap (λ (b : Bool). cond b 1 0 + count_in xs s) first ∙ ap (λ (n : ℕ). 1 + n) rest ∙ one_more (length xs)
  where
    one_more : (n : ℕ) → 1 + n ≡ suc n
    one_more n = omega arith

-- all of a list are in its set
pub all_count : (xs : List ℕ) → count_in xs (those xs) ≡ length xs
all_count xs = counted xs (those xs) (at_those xs)

-- the puts of one who came back are those that it has told, and of another there are none
pub all_back : (game : Game) (es : List (ℕ × Told)) (puts : Puts) (p : ℕ) → ((j : ℕ) (e : ℕ × Told) → slice_get es j ≡ Some e → puts (starter game e.0) ≡ e.1.puts)
    → ((k : ℕ) × (e : ℕ × Told) × (slice_get es k ≡ Some e) × (starter game e.0 ≡ p)) ⊎ (puts p ≡ []) → puts p ≡ puts_back game es p
all_back game [] puts p told (inl h) = absurd cc
all_back game [] puts p told (inr none) = none
all_back game (e ∷ es) puts p told where_p =
    elim (one_or_other (p == starter game e.0)) [
      | inl same ↦
          let here : p ≡ starter game e.0 = grind (arith, nat_tests) in
          ap puts here ∙ told 0 e refl ∙ sym (ap (λ (b : Bool). if b then e.1.puts else puts_back game es p) same)
      | inr other ↦
          let rest = all_back game es puts p (λ j d at. told (suc j) d at) (later where_p other) in
          rest ∙ sym (ap (λ (b : Bool). if b then e.1.puts else puts_back game es p) other)
    ]
  where
    later : ((k : ℕ) × (d : ℕ × Told) × (slice_get (e ∷ es) k ≡ Some d) × (starter game d.0 ≡ p)) ⊎ (puts p ≡ []) → (p == starter game e.0) ≡ false → ((k : ℕ) × (d : ℕ × Told) × (slice_get es k ≡ Some d) × (starter game d.0 ≡ p)) ⊎ (puts p ≡ [])
    later (inr none) other = inr none
    later (inl (zero, d, at, is)) other = let first : e ≡ d = cc in let starts : starter game e.0 ≡ p = ap (λ (x : ℕ × Told). starter game x.0) first ∙ is in let same : (p == starter game e.0) ≡ true = grind (arith, nat_tests) in absurd cc
    later (inl (suc k, d, at, is)) other = inl (k, d, at, is)

-- who is in a list stands at a place of it
pub place_of : (xs : List ℕ) (p : ℕ) → In p (those xs) → (k : ℕ) × (k < length xs) × (slice_index_or xs k 0 ≡ p)
place_of [] p i = absurd cc
place_of (x ∷ xs) p i = elim (one_or_other (x == p)) [
  | inl same ↦ (0, omega arith, grind (arith, nat_tests))
  | inr other ↦ let rest = place_of xs p (grind (arith, nat_tests)) in (suc rest.0, let lt = rest.1 in omega arith, rest.2)
]

-- n entries with different places below n: each place has one
pub every_place : (es : List (ℕ × Told)) (n : ℕ) → length es ≡ n → ((i : ℕ) (e : ℕ × Told) → slice_get es i ≡ Some e → e.0 < n) → ((i k : ℕ) (d e : ℕ × Told) → slice_get es i ≡ Some d → slice_get es k ≡ Some e → d.0 ≡ e.0 → i ≡ k) → (j : ℕ) → j < n → (k : ℕ) × (e : ℕ × Told) × (slice_get es k ≡ Some e) × (e.0 ≡ j)
every_place es n many below once j lt =
    let places : List ℕ = map (λ (e : ℕ × Told). e.0) es in
    let long : length places ≡ length es = length-map es (λ (e : ℕ × Told). e.0) in
    let at : (k : ℕ) → k < length es → (e : ℕ × Told) × (slice_get es k ≡ Some e) × ((d : ℕ) → get_or places k d ≡ e.0) = λ k within. entry es k within in
    elim (one_or_other (those places j)) [
      | inl among ↦
          let p = place_of places j among in
          let e = at p.0 (let a = p.1 in omega arith) in
          (p.0, e.0, e.1, sym (e.2 0) ∙ p.2)
      | inr missing ↦
          let below_n : All (λ x. x < n) (j ∷ places) = All-cons (λ x. x < n) j places lt (λ k d within. let e = at k (omega arith) in let b = below k e.0 e.1 in let v : get_or places k d ≡ e.0.0 = e.2 d in omega arith) in
          let distinct : AllPairs ◌≢◌ places = λ a b d before within same. let e = at a (omega arith) in let f = at b (omega arith) in let i : a ≡ b = once a b e.0 f.0 e.1 f.1 (sym (e.2 d) ∙ same ∙ f.2 d) in omega arith in
          let apart : All (λ x. j ≢ x) places = λ k d within same. absurd (let h : In j (those places) = subst (λ (x : ℕ). In x (those places)) (sym (same ∙ default_free places k d within)) (at_those places k within) in cc) in
          let few = length-le_from_distinct_below (j ∷ places) n (IsDistinct-from_AllPairs Decides-eqb (j ∷ places) (AllPairs-cons ◌≢◌ j places apart distinct)) (λ q h. below_any (j ∷ places) n q below_n h) in
          absurd (omega arith)
    ]
  where
    entry : (es : List (ℕ × Told)) (k : ℕ) → k < length es → (e : ℕ × Told) × (slice_get es k ≡ Some e) × ((d : ℕ) → get_or (map (λ (e : ℕ × Told). e.0) es) k d ≡ e.0)
    entry [] k within = absurd (omega arith)
    entry (e ∷ es) zero within = (e, refl, λ d. refl)
    entry (e ∷ es) (suc k) within = entry es k (omega arith)

    default_free : (xs : List ℕ) (k d : ℕ) → k < length xs → get_or xs k d ≡ slice_index_or xs k 0
    default_free [] k d within = absurd (omega arith)
    default_free (x ∷ xs) zero d within = refl
    default_free (x ∷ xs) (suc k) d within = default_free xs k d (omega arith)

    below_any : (xs : List ℕ) (n q : ℕ) → All (λ x. x < n) xs → list_any (eqb q) xs ≡ true → q < n
    below_any xs n q all any = let a = Any-from_list_any (eqb q) xs any in omega (arith, all a.0 a.1 a.2, a.3, eqb-true q a.1 a.4)

pub any_default : (xs : List ℕ) (k d e : ℕ) → k < length xs → get_or xs k d ≡ get_or xs k e
any_default [] k d e within = absurd (omega arith)
any_default (x ∷ xs) zero d e within = refl
any_default (x ∷ xs) (suc k) d e within = any_default xs k d e (omega arith)
