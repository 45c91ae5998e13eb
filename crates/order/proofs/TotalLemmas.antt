-- Totals grow by one pair after another.
use Rattle.std.proofs.Common.{◌≡◌, ℕ, zero, suc, ◌+◌, ◌<◌, ◌≤◌, ◌^◌, Bool, true, false, not, ◌&&◌, ◌||◌, ◌==◌, cond, Option, Some, List, [], ◌∷◌, length, get_or, set, slice_get, slice_index_or, take, map, replicate, refl, ap, sym, ◌∙◌, subst, arith, inl, inr}
use Rattle.std.proofs.Math.Bool.{false-or, or-false}
use Rattle.std.proofs.lemmas.Bool.{cases_eq, cases_Bool, eq-eqb, ne_eqb}
use Rattle.std.proofs.lemmas.List.{length-set, get_or-set_same, get_or-set_other, get_or-replicate, length-replicate, length-take, ext_get_or, take_all}
use Rattle.std.proofs.lemmas.Option.{get_or_from_slice_get, slice_get-get_or, slice_get_within}
use Rattle.std.proofs.lemmas.Slice.Zip.{get_or-zip, length-zip}
use Rattle.std.proofs.lemmas.List.FromFn.{get_or-map-range_with_len, length-map-range_with_len}
use Rattle.std.proofs.lemmas.List.Sums.{count_by_more_no, count_by_more_yes, count_by-le-length}
use Rattle.std.specs.List.{count_by, range_with_len, zip}
use Rattle.arbitration.specs.declared.spans.Outcomes.{Outcomes}
use Rattle.order.specs.Counting.{more, none, grown, with_meeting, HasRoom, AllHaveRoom}
use Rattle.order.specs.Totals.{Meeting, first_can, second_can, can_win, can_lose, total_of, totals_below}
use Rattle.order.specs.declared.totals.Total.{Total}

same_total : (t u : Total) → t.wins ≡ u.wins → t.may_win ≡ u.may_win → t.loses ≡ u.loses → t ≡ u
same_total t u a b c =
    ap (λ (w : ℕ). record { wins = w; may_win = t.may_win; loses = t.loses }) a
    ∙ (ap (λ (m : ℕ). record { wins = u.wins; may_win = m; loses = t.loses }) b
    ∙ ap (λ (l : ℕ). record { wins = u.wins; may_win = u.may_win; loses = l }) c)

-- ---- one more pair of one participant

module _ (ms : List Meeting) (k : ℕ) (m : Meeting) (inside : k < length ms) (here : get_or ms k m ≡ m) where
  counted : (f : Meeting → Bool) → f m ≡ true → count_by f (take (k + 1) ms) ≡ count_by f (take k ms) + 1
  counted f e = count_by_more_yes f ms k m inside (ap f here ∙ e)

  passed : (f : Meeting → Bool) → f m ≡ false → count_by f (take (k + 1) ms) ≡ count_by f (take k ms)
  passed f e = count_by_more_no f ms k m inside (ap f here ∙ e)

  one_more : (p : ℕ) (a b : Bool) → can_win p m ≡ a → can_lose p m ≡ b → total_of (take (k + 1) ms) p ≡ more a b (total_of (take k ms) p)
  one_more p true true a b =
      same_total _ _
      (passed (λ x. can_win p x && not (can_lose p x)) (ap (λ c. c && not (can_lose p m)) a ∙ ap (λ c. true && not c) b))
      (counted (λ x. can_win p x && can_lose p x) (ap (λ c. c && can_lose p m) a ∙ ap (λ c. true && c) b))
      (passed (λ x. can_lose p x && not (can_win p x)) (ap (λ c. c && not (can_win p m)) b ∙ ap (λ c. true && not c) a))
  one_more p true false a b =
      same_total _ _
      (counted (λ x. can_win p x && not (can_lose p x)) (ap (λ c. c && not (can_lose p m)) a ∙ ap (λ c. true && not c) b))
      (passed (λ x. can_win p x && can_lose p x) (ap (λ c. c && can_lose p m) a ∙ ap (λ c. true && c) b))
      (passed (λ x. can_lose p x && not (can_win p x)) (ap (λ c. c && not (can_win p m)) b))
  one_more p false true a b =
      same_total _ _
      (passed (λ x. can_win p x && not (can_lose p x)) (ap (λ c. c && not (can_lose p m)) a))
      (passed (λ x. can_win p x && can_lose p x) (ap (λ c. c && can_lose p m) a))
      (counted (λ x. can_lose p x && not (can_win p x)) (ap (λ c. c && not (can_win p m)) b ∙ ap (λ c. true && not c) a))
  one_more p false false a b =
      same_total _ _
      (passed (λ x. can_win p x && not (can_lose p x)) (ap (λ c. c && not (can_lose p m)) a))
      (passed (λ x. can_win p x && can_lose p x) (ap (λ c. c && can_lose p m) a))
      (passed (λ x. can_lose p x && not (can_win p x)) (ap (λ c. c && not (can_win p m)) b))

-- ---- who is of a pair

either : (a b f s : Bool) → a ≡ true → b ≡ false → ((a && f) || (b && s)) ≡ f
either a b f s e g = ap (λ c. (c && f) || (b && s)) e ∙ (ap (λ c. (true && f) || (c && s)) g ∙ or-false f)

other : (a b f s : Bool) → a ≡ false → b ≡ true → ((a && f) || (b && s)) ≡ s
other a b f s e g = ap (λ c. (c && f) || (b && s)) e ∙ ap (λ c. (false && f) || (c && s)) g

neither : (a b f s : Bool) → a ≡ false → b ≡ false → ((a && f) || (b && s)) ≡ false
neither a b f s e g = ap (λ c. (c && f) || (b && s)) e ∙ ap (λ c. (false && f) || (c && s)) g

-- ---- one more pair of all participants

module _ (ms : List Meeting) (k n : ℕ) (m : Meeting) (inside : k < length ms) (here : get_or ms k m ≡ m) (two : m.0.0 < m.0.1) (both_in : m.0.1 < n) where
  at : (zs : List Meeting) (p : ℕ) → p < n → get_or (totals_below n zs) p none ≡ total_of zs p
  at zs p h = get_or-map-range_with_len (total_of zs) 0 n p p none h (omega arith)

  sized : (zs : List Meeting) → length (totals_below n zs) ≡ n
  sized zs = length-map-range_with_len (total_of zs) 0 n

  length-grown : (ts : List Total) (p : ℕ) (a b : Bool) → length (grown ts p a b) ≡ length ts
  length-grown ts p a b = length-set ts p (more a b (slice_index_or ts p none))

  grown_here : (ts : List Total) (p q : ℕ) (a b : Bool) → q ≡ p → p < length ts → get_or (grown ts p a b) q none ≡ more a b (get_or ts p none)
  grown_here ts p q a b e h =
      ap (λ i. get_or (grown ts p a b) i none) e ∙ get_or-set_same ts p (more a b (get_or ts p none)) none h

  grown_other : (ts : List Total) (p q : ℕ) (a b : Bool) → (q ≡ p → ⊥) → get_or (grown ts p a b) q none ≡ get_or ts q none
  grown_other ts p q a b e = get_or-set_other ts p q (more a b (get_or ts p none)) none e

  pub totals_next : with_meeting (totals_below n (take k ms)) m ≡ totals_below n (take (k + 1) ms)
  totals_next =
      let old : List Total = totals_below n (take k ms) in
      let x = m.0.0 in
      let y = m.0.1 in
      let f = first_can m.1 in
      let s = second_can m.1 in
      let now : List Total = grown old x f s in
      let long : length old ≡ n = sized (take k ms) in
      let long_now : length now ≡ n = length-grown old x f s ∙ long in
      ext_get_or none (grown now y s f) (totals_below n (take (k + 1) ms))
      (length-grown now y s f ∙ (long_now ∙ sym (sized (take (k + 1) ms))))
      (λ p h.
      let p_in : p < n = omega (arith, h, length-grown now y s f, long_now) in
      let x_in : x < length old = omega (arith, long) in
      let y_in : y < length now = omega (arith, long_now) in
      elim (cases_eq p x) [
        | inl e ↦
            let ne : p ≡ y → ⊥ = λ g. absurd (omega (arith, e, g)) in
            let is_x : (x == p) ≡ true = eq-eqb x p (sym e) in
            let no_y : (y == p) ≡ false = ne_eqb y p (λ g. ne (sym g)) in
            grown_other now y p s f ne
            ∙ (grown_here old x p f s e x_in
            ∙ (ap (λ q. more f s (get_or old q none)) (sym e)
            ∙ (ap (more f s) (at (take k ms) p p_in)
            ∙ (sym (one_more ms k m inside here p f s (either (x == p) (y == p) f s is_x no_y) (either (x == p) (y == p) s f is_x no_y))
            ∙ sym (at (take (k + 1) ms) p p_in)))))
        | inr not_x ↦
            let no_x : (x == p) ≡ false = ne_eqb x p (λ g. not_x (sym g)) in
            elim (cases_eq p y) [
              | inl e ↦
                  let is_y : (y == p) ≡ true = eq-eqb y p (sym e) in
                  let y_no : y ≡ x → ⊥ = λ g. absurd (omega (arith, g)) in
                  grown_here now y p s f e y_in
                  ∙ (ap (more s f) (grown_other old x y f s y_no)
                  ∙ (ap (λ q. more s f (get_or old q none)) (sym e)
                  ∙ (ap (more s f) (at (take k ms) p p_in)
                  ∙ (sym (one_more ms k m inside here p s f (other (x == p) (y == p) f s no_x is_y) (other (x == p) (y == p) s f no_x is_y))
                  ∙ sym (at (take (k + 1) ms) p p_in)))))
              | inr not_y ↦
                  let no_y : (y == p) ≡ false = ne_eqb y p (λ g. not_y (sym g)) in
                  grown_other now y p s f not_y
                  ∙ (grown_other old x p f s not_x
                  ∙ (at (take k ms) p p_in
                  ∙ (sym (one_more ms k m inside here p false false (neither (x == p) (y == p) f s no_x no_y) (neither (x == p) (y == p) s f no_x no_y))
                  ∙ sym (at (take (k + 1) ms) p p_in))))
            ]
      ])

-- ---- where no pair has been counted, and how large a total may be

pub nothing_counted : (n : ℕ) → replicate n none ≡ totals_below n []
nothing_counted n =
    ext_get_or none (replicate n none) (totals_below n [])
    (length-replicate n none ∙ sym (length-map-range_with_len (total_of []) 0 n))
    (λ p h.
    let p_in : p < n = omega (arith, h, length-replicate n none) in
    get_or-replicate n p none none p_in ∙ sym (get_or-map-range_with_len (total_of []) 0 n p p none p_in (omega arith)))

pub total_has_room : (n k : ℕ) (ms : List Meeting) (p : ℕ) (t : Total) → slice_get (totals_below n (take k ms)) p ≡ Some t → k + 1 < 2 ^ 32 → HasRoom t
total_has_room n k ms p t e h =
    let p_in : p < n = omega (arith, slice_get_within (totals_below n (take k ms)) p t e, length-map-range_with_len (total_of (take k ms)) 0 n) in
    let t_is : total_of (take k ms) p ≡ t =
    sym (get_or-map-range_with_len (total_of (take k ms)) 0 n p p none p_in (omega arith)) ∙ get_or_from_slice_get (totals_below n (take k ms)) p t none e in
    let few : length (take k ms) ≤ k = omega (arith, length-take k ms) in
    record {
      wins = omega (arith, few, ap (λ (u : Total). u.wins) t_is, count_by-le-length (λ m. can_win p m && not (can_lose p m)) (take k ms));
      may_win = omega (arith, few, ap (λ (u : Total). u.may_win) t_is, count_by-le-length (λ m. can_win p m && can_lose p m) (take k ms));
      loses = omega (arith, few, ap (λ (u : Total). u.loses) t_is, count_by-le-length (λ m. can_lose p m && not (can_win p m)) (take k ms));
    }

-- ---- the pairs of a plan, one by one

module _ (n k : ℕ) (pairs : List (ℕ × ℕ)) (ways : List (Option Outcomes)) (totals : List Total) (within : (k x y : ℕ) → slice_get pairs k ≡ Some (x, y) → (x < y) × (y < n)) (all : length ways ≡ length pairs) (so_far : totals ≡ totals_below n (take k (zip pairs ways))) where
  pub counted_size : length totals ≡ n
  counted_size = ap length so_far ∙ length-map-range_with_len (total_of (take k (zip pairs ways))) 0 n

  module _ (inside : k < length pairs) where
    pub counted_pair : (d : ℕ × ℕ) → ((get_or pairs k d).0 < (get_or pairs k d).1) × ((get_or pairs k d).1 < n)
    counted_pair d = within k (get_or pairs k d).0 (get_or pairs k d).1 (slice_get-get_or pairs k d inside)

    pub counted_room : length pairs < 2 ^ 32 → AllHaveRoom totals
    counted_room few p t e =
        let at : slice_get (totals_below n (take k (zip pairs ways))) p ≡ Some t = ap (λ ts. slice_get ts p) (sym so_far) ∙ e in
        total_has_room n k (zip pairs ways) p t at (omega arith)

    pub counted_next : (p : ℕ × ℕ) (way : Option Outcomes) → p ≡ get_or pairs k p → way ≡ get_or ways k way → with_meeting totals (p, way) ≡ totals_below n (take (k + 1) (zip pairs ways))
    counted_next p way is_pair is_way =
        let ways_in : k < length ways = omega arith in
        let here : get_or (zip pairs ways) k (p, way) ≡ (p, way) = get_or-zip pairs ways k (p, way) inside ways_in ∙ (ap (λ q. (q, get_or ways k way)) (sym is_pair) ∙ ap (λ w. (p, w)) (sym is_way)) in
        let long : k < length (zip pairs ways) = omega (arith, length-zip pairs ways) in
        let b = counted_pair p in
        let first : p.0 < p.1 = subst (λ (q : ℕ × ℕ). q.0 < q.1) (sym is_pair) b.0 in
        let second : p.1 < n = subst (λ (q : ℕ × ℕ). q.1 < n) (sym is_pair) b.1 in
        ap (λ ts. with_meeting ts (p, way)) so_far ∙ totals_next (zip pairs ways) k n (p, way) long here first second

  pub all_counted : length pairs ≤ k → totals ≡ totals_below n (zip pairs ways)
  all_counted past = so_far ∙ ap (totals_below n) (take_all k (zip pairs ways) (omega (arith, length-zip pairs ways)))
