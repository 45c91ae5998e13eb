-- The table of the pairs of n numbers, by a test on which two are apart.
use Rattle.std.proofs.Common.{◌≡◌, ℕ, ◌+◌, ◌-◌, ◌*◌, ◌<◌, ◌≤◌, ◌||◌, zero, suc, Bool, true, not, cond, List, [], ◌∷◌, ◌++◌, length, map, filter, Option, Some, None, slice_get, get_or, take, refl, sym, ◌∙◌, ap, subst, arith, length-append, true≢false, below_more, ◌⊎◌, inl, inr, zero-add}
use Rattle.std.specs.List.{range_with_len, flat_map}
use Rattle.std.specs.List.Sorted.{IsNonDecreasingBy}
use Rattle.std.proofs.lemmas.Bool.{eqb-true, cases_lt}
use Rattle.std.proofs.lemmas.List.{length-map, map-id, append-nil, get_or_append_left, get_or-append-add, get_or_push, length_push, get_or-map}
use Rattle.std.proofs.lemmas.List.Concat.{flat_map-append, get_or-flat_map}
use Rattle.std.proofs.lemmas.List.Elements.{filter_agree}
use Rattle.std.proofs.lemmas.List.FromFn.{filter_of_map_range_with_len_more, map-range_with_len_more, length-range_with_len, get_or-range_with_len, take-map-range_with_len}
use Rattle.std.proofs.lemmas.List.Sums.{length-filter, count_by-le-length}
use Rattle.std.proofs.lemmas.Option.{slice_get-get_or}
use Rattle.plan_core.specs.declared.plans.Participant.{Participant}
use Rattle.plan_core.specs.declared.plans.Participant.TheVariants.{Sending, Interrupt}
use Rattle.plan_core.specs.declared.pairs.Row.{Row}
use Rattle.plan_core.specs.Participants.{one_controller, forbids_both}
use Rattle.plan_core.specs.Pairs.{partners_by, pairs_by}
use Rattle.plan_core.specs.PairTables.{never_together, are_apart, IsRow, AreRows, Extends}

-- ---- participants

-- whoever never starts with one sending of a controller never starts with the others
pub never_together-other : (nevers : List (ℕ × ℕ)) (own last other : Participant) → one_controller (Some last) (Some other) ≡ true → never_together nevers (Some own) (Some other) ≡ never_together nevers (Some own) (Some last)
never_together-other nevers (Interrupt k) last other same = refl
never_together-other nevers (Sending c m) (Interrupt k) other same = absurd (true≢false (sym same))
never_together-other nevers (Sending c m) (Sending d n) (Interrupt k) same = absurd (true≢false (sym same))
never_together-other nevers (Sending c m) (Sending d n) (Sending e k) same = ap (λ d. never_together nevers (Some (Sending c m)) (Some (Sending d n))) (sym (eqb-true d e same))

never_together-own : (nevers : List (ℕ × ℕ)) (p q : Participant) (other : Option Participant) → one_controller (Some p) (Some q) ≡ true → never_together nevers (Some p) other ≡ never_together nevers (Some q) other
never_together-own nevers (Interrupt k) q other same = absurd (true≢false (sym same))
never_together-own nevers (Sending c m) (Interrupt k) other same = absurd (true≢false (sym same))
never_together-own nevers (Sending c m) (Sending d n) None same = refl
never_together-own nevers (Sending c m) (Sending d n) (Some (Interrupt k)) same = refl
never_together-own nevers (Sending c m) (Sending d n) (Some (Sending e k)) same = ap (λ c. never_together nevers (Some (Sending c m)) (Some (Sending e k))) (eqb-true c d same)

-- ---- numbers

-- a range of numbers, and one more
range_more : (a n j : ℕ) → a + n ≡ j → range_with_len a (n + 1) ≡ range_with_len a n ++ j ∷ []
range_more a n j e = simp map-id at (map-range_with_len_more (λ k. k) a n j e)

module _ (is_apart : ℕ → ℕ → Bool) where
  -- the partners below one number more
  pub partners-more : (x y : ℕ) (b : Bool) → x < y → is_apart x y ≡ b → partners_by is_apart (y + 1) x ≡ partners_by is_apart y x ++ cond (not b) (y ∷ []) []
  partners-more x y b lt is =
      let size : y + 1 - (x + 1) ≡ y - (x + 1) + 1 = omega arith in
      ap (λ n. filter (λ y. not (is_apart x y)) (range_with_len (x + 1) n)) size
      ∙ (simp map-id at (filter_of_map_range_with_len_more (λ y. not (is_apart x y)) (λ k. k) (x + 1) (y - (x + 1)) y (omega arith)))
      ∙ ap (λ b. partners_by is_apart y x ++ cond (not b) (y ∷ []) []) is

  module _ (n : ℕ) where
    -- a number has at most n partners
    pub partners-few : (x : ℕ) → length (partners_by is_apart n x) ≤ n
    partners-few x =
        let range = range_with_len (x + 1) (n - (x + 1)) in
        let kept = length-filter (λ y. not (is_apart x y)) range in
        let most = count_by-le-length (λ y. not (is_apart x y)) range in
        omega (arith, kept, most, length-range_with_len (x + 1) (n - (x + 1)))

    -- two that follow one another and are apart from the same others, and from one another, have the same partners
    pub partners-same : (x : ℕ) → x + 1 < n → is_apart x (x + 1) ≡ true → ((y : ℕ) → is_apart x y ≡ is_apart (x + 1) y) → partners_by is_apart n x ≡ partners_by is_apart n (x + 1)
    partners-same x within apart same =
        let rest = n - (x + 1 + 1) in
        let size : n - (x + 1) ≡ suc rest = omega arith in
        let kept = filter (λ y. not (is_apart x y)) (range_with_len (x + 1 + 1) rest) in
        ap (λ n. filter (λ y. not (is_apart x y)) (range_with_len (x + 1) n)) size
        ∙ ap (λ b. cond (not b) ((x + 1) ∷ kept) kept) apart
        ∙ filter_agree (λ y. not (is_apart x y)) (λ y. not (is_apart (x + 1) y)) (λ y. ap not (same y)) (range_with_len (x + 1 + 1) rest)

    row_of : ℕ → List (ℕ × ℕ)
    row_of x = map (λ y. (x, y)) (partners_by is_apart n x)

    -- the pairs of one number more
    length-pairs_by : (x : ℕ) → length (pairs_by is_apart n (x + 1)) ≡ length (pairs_by is_apart n x) + length (partners_by is_apart n x)
    unfolding row_of
    length-pairs_by x =
        let more = ap (flat_map row_of) (range_more 0 x x (omega arith)) ∙ flat_map-append row_of (range_with_len 0 x) (x ∷ []) ∙ ap (λ ps. flat_map row_of (range_with_len 0 x) ++ ps) (append-nil (row_of x)) in
        omega (arith, ap length more, length-append (pairs_by is_apart n x) (row_of x), length-map {B = ℕ × ℕ} (partners_by is_apart n x) (λ y. (x, y)))

    pub pairs_by-few : (x : ℕ) → length (pairs_by is_apart n x) ≤ x * n
    pairs_by-few zero = omega arith
    pairs_by-few (suc x) =
        let next : x + 1 ≡ suc x = omega arith in
        let bound : length (pairs_by is_apart n (x + 1)) ≤ (x + 1) * n = omega (arith, length-pairs_by x, pairs_by-few x, partners-few x) in
        subst (λ k. length (pairs_by is_apart n k) ≤ k * n) next bound

    rising_by : (x k : ℕ) → length (pairs_by is_apart n x) ≤ length (pairs_by is_apart n (x + k))
    rising_by x zero = let e : x ≡ x + zero = omega arith in subst (λ m. length (pairs_by is_apart n x) ≤ length (pairs_by is_apart n m)) e (omega arith)
    rising_by x (suc k) =
        let e : x + k + 1 ≡ x + suc k = omega arith in
        subst (λ m. length (pairs_by is_apart n x) ≤ length (pairs_by is_apart n m)) e (omega (arith, rising_by x k, length-pairs_by (x + k)))

    rising : (x y : ℕ) → x ≤ y → length (pairs_by is_apart n x) ≤ length (pairs_by is_apart n y)
    rising x y le =
        let e : x + (y - x) ≡ y = omega arith in
        subst (λ m. length (pairs_by is_apart n x) ≤ length (pairs_by is_apart n m)) e (rising_by x (y - x))

    -- a row stays, as the list of all grows
    IsRow-extends : (all new : List ℕ) (x : ℕ) (row : Row) → Extends all new n → IsRow is_apart n all x row → IsRow is_apart n new x row
    IsRow-extends all new x row grown is = record {
      first = is.first;
      len = is.len;
      within = omega (arith, ap length grown.same, length-append all grown.more, is.within);
      partners = λ j h. ap (λ xs. get_or xs (row.partners + j) 0) grown.same ∙ get_or_append_left all grown.more 0 (row.partners + j) (omega (arith, is.within, h)) ∙ is.partners j h;
    }

    -- the row of a number that has the partners of the one before it
    pub IsRow-next : (all : List ℕ) (k x : ℕ) (row next : Row) → IsRow is_apart n all k row → partners_by is_apart n k ≡ partners_by is_apart n x → next.first ≡ length (pairs_by is_apart n x) → next.len ≡ row.len → next.partners ≡ row.partners → IsRow is_apart n all x next
    IsRow-next all k x row next is same first len partners = record {
      first = first;
      len = len ∙ is.len ∙ ap length same;
      within = omega (arith, is.within);
      partners = λ j h. ap (λ k. get_or all (k + j) 0) partners ∙ is.partners j (omega (arith, len, h)) ∙ ap (λ xs. get_or xs j 0) same;
    }

    -- the row of a number whose partners have just been put after the others
    pub IsRow-pushed : (all new : List ℕ) (x : ℕ) (row : Row) → new ≡ all ++ partners_by is_apart n x → row.first ≡ length (pairs_by is_apart n x) → row.len ≡ length (partners_by is_apart n x) → row.partners ≡ length all → IsRow is_apart n new x row
    IsRow-pushed all new x row grown first len partners =
        let own = partners_by is_apart n x in
        record {
          first = first;
          len = len;
          within = omega (arith, ap length grown, length-append all own);
          partners = λ j h. ap (λ xs. get_or xs (row.partners + j) 0) grown ∙ ap (λ k. get_or (all ++ own) (k + j) 0) partners ∙ get_or-append-add all own j 0;
        }

    -- one row more
    pub AreRows-push : (x : ℕ) (rows new_rows : List Row) (all new : List ℕ) (count new_count : ℕ) (row : Row) → AreRows is_apart n x rows all count → Extends all new n → IsRow is_apart n new x row → new_rows ≡ rows ++ row ∷ [] → new_count ≡ count + row.len → AreRows is_apart n (x + 1) new_rows new new_count
    AreRows-push x rows new_rows all new count new_count row are grown is rows_same count_same = record {
      sized = ap length rows_same ∙ length_push rows row ∙ ap (λ n. n + 1) are.sized;
      row = λ y d. below_more (λ y. IsRow is_apart n new y (get_or new_rows y d)) x
          (λ k h. subst (IsRow is_apart n new k) (sym (get_or_append_left rows (row ∷ []) d k (omega (arith, are.sized, h))) ∙ ap (λ rs. get_or rs k d) (sym rows_same)) (IsRow-extends all new k (get_or rows k d) grown (are.row k d h)))
          (subst (IsRow is_apart n new x) (sym (get_or_push rows row d x are.sized) ∙ ap (λ rs. get_or rs x d) (sym rows_same)) is) y;
      pairs = omega (arith, count_same, are.pairs, is.len, length-pairs_by x);
      few = omega (arith, are.few, grown.few, ap length grown.same, length-append all grown.more);
    }

    module _ (rows : List Row) (all : List ℕ) (count : ℕ) (are : AreRows is_apart n n rows all count) where
      -- the rows begin in the order of their pairs
      pub AreRows-ordered : IsNonDecreasingBy (λ (row : Row). row.first) rows
      AreRows-ordered x y d le within =
          let first = (are.row x d (omega (arith, are.sized))).first in
          let second = (are.row y d (omega (arith, are.sized))).first in
          omega (arith, first, second, rising x y le)

      -- pair i is one of the last row that begins no later
      pub AreRows-last : (i x : ℕ) (d : Row) → i < count → x < n → ((k : ℕ) (d : Row) → x < k → k < length rows → i < (get_or rows k d).first) → i < (get_or rows x d).first + (get_or rows x d).len
      AreRows-last i x d lt within after =
          cases (cases_lt (x + 1) n)
        where
          upper : length (pairs_by is_apart n (x + 1)) ≡ (get_or rows x d).first + (get_or rows x d).len
          upper = length-pairs_by x ∙ omega (arith, (are.row x d within).first, (are.row x d within).len)

          cases : (x + 1 < n) ⊎ (n ≤ x + 1) → i < (get_or rows x d).first + (get_or rows x d).len
          cases (inl more) = omega (arith, (are.row (x + 1) d more).first, after (x + 1) d (omega arith) (omega (arith, are.sized)), upper)
          cases (inr end) =
              let e : n ≡ x + 1 = omega arith in
              omega (arith, are.pairs ∙ ap (λ k. length (pairs_by is_apart n k)) e, upper)

      -- and this is the pair
      pub AreRows-pair : (i x : ℕ) (row : Row) → x < n → IsRow is_apart n all x row → row.first ≤ i → i < row.first + row.len → slice_get (pairs_by is_apart n n) i ≡ Some (x, get_or all (row.partners + (i - row.first)) 0)
      unfolding row_of
      AreRows-pair i x row within is from to =
          let range = range_with_len 0 n in
          let j = i - row.first in
          let d : ℕ × ℕ = (0, 0) in
          let at : get_or range x 0 ≡ x = get_or-range_with_len 0 n x 0 within ∙ zero-add x in
          let front : take x range ≡ range_with_len 0 x = simp map-id at (take-map-range_with_len (λ k. k) 0 n x (omega arith)) in
          let begin : length (flat_map row_of (take x range)) + j ≡ i = ap (λ xs. length (flat_map row_of xs) + j) front ∙ ap (λ k. k + j) (sym is.first) ∙ omega arith in
          let short : j < length (partners_by is_apart n x) = omega (arith, is.len) in
          let own_short : j < length (row_of (get_or range x 0)) = subst (λ k. j < length (row_of k)) (sym at) (omega (arith, length-map {B = ℕ × ℕ} (partners_by is_apart n x) (λ y. (x, y)), short)) in
          let found = get_or-flat_map row_of range x j 0 d (omega (arith, length-range_with_len 0 n)) own_short in
          let second : get_or (partners_by is_apart n x) j 0 ≡ get_or all (row.partners + j) 0 = sym (is.partners j (omega arith)) in
          let total : i < length (pairs_by is_apart n n) = omega (arith, is.first, is.len, length-pairs_by x, rising (x + 1) n (omega arith)) in
          slice_get-get_or (pairs_by is_apart n n) i d total
          ∙ ap Some (ap (λ k. get_or (flat_map row_of range) k d) (sym begin) ∙ found ∙ ap (λ k. get_or (row_of k) j d) at
          ∙ get_or-map (λ y. (x, y)) (partners_by is_apart n x) j 0 d short ∙ ap (λ y. (x, y)) second)

      -- there are rows where there are pairs
      pub AreRows-some : (i : ℕ) → i < count → 0 < length rows
      AreRows-some i lt = by (cases_lt 0 n)
        where
          by : (0 < n) ⊎ (n ≤ 0) → 0 < length rows
          by (inl more) = omega (arith, are.sized)
          by (inr none) =
              let e : n ≡ 0 = omega arith in
              absurd (omega (arith, are.pairs, ap (λ k. length (pairs_by is_apart n k)) e, pairs_by-few 0))

-- ---- both

-- the row of a sending, after that of the one before it of the same controller
pub IsRow-next_sending : (nevers : List (ℕ × ℕ)) (participants : List Participant) (all : List ℕ) (k x : ℕ) (d : Participant) (row next : Row) → k + 1 ≡ x → x < length participants → IsRow (are_apart nevers participants) (length participants) all k row → one_controller (Some (get_or participants k d)) (Some (get_or participants x d)) ≡ true → next.first ≡ length (pairs_by (are_apart nevers participants) (length participants) x) → next.len ≡ row.len → next.partners ≡ row.partners → IsRow (are_apart nevers participants) (length participants) all x next
IsRow-next_sending nevers participants all k x d row next e within is same first len partners =
    let is_apart = are_apart nevers participants in
    let n = length participants in
    let p = get_or participants k d in
    let q = get_or participants x d in
    let at_k : slice_get participants k ≡ Some p = slice_get-get_or participants k d (omega arith) in
    let at_next : slice_get participants (k + 1) ≡ Some q = ap (slice_get participants) e ∙ slice_get-get_or participants x d within in
    let apart : is_apart k (k + 1) ≡ true = (λ i. never_together nevers (at_k i) (at_next i)) ∙ ap (λ b. b || forbids_both nevers (Some p) (Some q)) same in
    let others : (y : ℕ) → is_apart k y ≡ is_apart (k + 1) y = λ y. ap (λ o. never_together nevers o (slice_get participants y)) at_k ∙ never_together-own nevers p q (slice_get participants y) same ∙ ap (λ o. never_together nevers o (slice_get participants y)) (sym at_next) in
    IsRow-next is_apart n all k x row next is (partners-same is_apart n k (omega arith) apart others ∙ ap (partners_by is_apart n) e) first len partners
