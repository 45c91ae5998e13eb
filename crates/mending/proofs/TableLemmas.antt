-- A table of all pairs of numbers below n, one pair after the other.
use Rattle.std.proofs.Common.{◌≡◌, ℕ, ◌+◌, ◌*◌, ◌/◌, ◌%◌, ◌<◌, ◌==◌, ◌&&◌, ◌||◌, Bool, true, false, Some, List, [], ◌∷◌, ◌++◌, length, get_or, map, take, set, slice_get, refl, ap, sym, ◌∙◌, inl, inr, arith}
use Rattle.std.specs.List.{list_all}
use Rattle.std.proofs.Math.ListN.{length-set}
use Rattle.std.proofs.Math.Nat.{mod-eq_of_lt, mul-add-mod_self_right}
use Rattle.std.proofs.lemmas.Bool.Decides.{eqb_tells, same_from_decides, Decides-eqb, Decides-and, Decides-like}
use Rattle.std.proofs.lemmas.List.{map_more}
use Rattle.std.proofs.lemmas.List.Folds.{list_all-map, list_any_more}
use Rattle.std.proofs.lemmas.Nat.{div-mul-add}
use Rattle.std.proofs.lemmas.Option.{get_or_from_slice_get, slice_get_within}
use Rattle.plan_core.specs.Participants.{names_both}
use Rattle.plan_core.proofs.ListLemmas.{get_set_same, get_set_other}
use Rattle.mending.specs.Numbers.{is_among, AreBelow, IsTable}

-- ---- places

place_parts : (v w a b n : ℕ) → w < n → b < n → v * n + w ≡ a * n + b → (a ≡ v) × (b ≡ w)
place_parts v w a b n h i e =
    (sym (sym (div-mul-add v n w h) ∙ (ap (λ m. m / n) e ∙ div-mul-add a n b i)), sym (sym (mod-eq_of_lt h) ∙ (sym (mul-add-mod_self_right v n w) ∙ (ap (λ m. m % n) e ∙ (mul-add-mod_self_right a n b ∙ mod-eq_of_lt i)))))

-- two numbers have their place to themselves
own_place : (v w a b n : ℕ) → w < n → b < n → (v * n + w == a * n + b) ≡ (a == v && b == w)
own_place v w a b n h i =
    same_from_decides (v * n + w == a * n + b) (a == v && b == w) (Decides-eqb (v * n + w) (a * n + b))
    (Decides-like (a == v && b == w) (λ (both : (a ≡ v) × (b ≡ w)). λ j. sym both.0 j * n + sym both.1 j) (λ e. place_parts v w a b n h i e) (Decides-and (a == v) (b == w) (Decides-eqb a v) (Decides-eqb b w)))

-- ---- marks

or_true : (b : Bool) → (b || true) ≡ true
or_true true = refl
or_true false = refl

or_false : (b : Bool) → (b || false) ≡ b
or_false true = refl
or_false false = refl

set_true : (xs : List Bool) (i p : ℕ) (b : Bool) → slice_get xs p ≡ Some b → slice_get (set xs i true) p ≡ Some (b || p == i)
set_true xs i p b e =
    elim (eqb_tells p i) [
      | inl same ↦
          let h = slice_get_within xs p b e in
          ap (slice_get (set xs i true)) same.1 ∙ (get_set_same xs i true (omega (arith, h, same.1)) ∙ ap Some (sym (ap (λ t. b || t) same.0 ∙ or_true b)))
      | inr differ ↦ get_set_other xs i p true differ.1 ∙ (e ∙ ap Some (sym (ap (λ t. b || t) differ.0 ∙ or_false b)))
    ]

either_way : (b s t u v : Bool) → ((b || s && t) || u && v) ≡ (b || (s && t || v && u))
either_way b s t u v = grind arith

-- ---- the table

pub table_more : (n : ℕ) (pairs : List (ℕ × ℕ)) (k a b : ℕ) (table new : List Bool) → IsTable n (take k pairs) table → k < length pairs → get_or pairs k (0, 0) ≡ (a, b) → a < n → b < n → new ≡ set (set table (a * n + b) true) (b * n + a) true → IsTable n (take (k + 1) pairs) new
table_more n pairs k a b table new so_far within two h i is = record {
  sized = ap length is ∙ (length-set (set table (a * n + b) true) (b * n + a) true ∙ (length-set table (a * n + b) true ∙ so_far.sized));
  each = λ v w l m.
      let before = is_among (take k pairs) (v, w) in
      let one = set_true table (a * n + b) (v * n + w) before (so_far.each v w l m) in
      let other = set_true (set table (a * n + b) true) (b * n + a) (v * n + w) (before || v * n + w == a * n + b) one in
      let tests : ((before || v * n + w == a * n + b) || v * n + w == b * n + a) ≡ (before || (a == v && b == w || a == w && b == v)) =
      (λ j. (before || own_place v w a b n m i j) || own_place v w b a n m h j) ∙ either_way before (a == v) (b == w) (b == v) (a == w) in
      let more = list_any_more (names_both v w) pairs k (0, 0) within ∙ ap (λ (it : ℕ × ℕ). before || names_both v w it) two in
      ap (λ (t : List Bool). slice_get t (v * n + w)) is ∙ (other ∙ ap Some (tests ∙ sym more));
}

-- what stands in the table for a pair of numbers below n
pub found_more : (n : ℕ) (others pairs : List (ℕ × ℕ)) (k : ℕ) (table found : List Bool) (b : Bool) → IsTable n others table → AreBelow n pairs → k < length pairs → b ≡ get_or table ((get_or pairs k (0, 0)).0 * n + (get_or pairs k (0, 0)).1) b → found ≡ map (is_among others) (take k pairs) → found ++ b ∷ [] ≡ map (is_among others) (take (k + 1) pairs)
found_more n others pairs k table found b is below within read so_far =
    let two = get_or pairs k (0, 0) in
    let small = below k (0, 0) within in
    let own : b ≡ is_among others two = read ∙ get_or_from_slice_get table (two.0 * n + two.1) (is_among others two) b (is.each two.0 two.1 small.0 small.1) in
    (λ j. so_far j ++ own j ∷ []) ∙ sym (map_more (is_among others) pairs k (0, 0) within)

pub all_found : (others pairs : List (ℕ × ℕ)) (found shown : List Bool) (b : Bool) → found ≡ map (is_among others) pairs → shown ≡ found → b ≡ list_all (λ (t : Bool). t) shown → list_all (is_among others) pairs ≡ b
all_found others pairs found shown b e f g =
    sym (list_all-map (λ (t : Bool). t) (is_among others) pairs) ∙ (ap (list_all (λ (t : Bool). t)) (sym (f ∙ e)) ∙ sym g)
