-- What the numbers of unsafe pairs say of an edit.
use Rattle.std.proofs.Common.{◌≡◌, ℕ, suc, ◌+◌, ◌<◌, ◌==◌, ◌&&◌, Bool, true, false, Option, Some, None, List, [], ◌∷◌, length, map, slice_get, refl, ap, sym, ◌∙◌, subst, arith, eqb-true, eq-eqb}
use Rattle.std.specs.Prelude.{Decides, option_map, IfSome, IsTrue, MatchOption, is_none, ◌↔◌}
use Rattle.std.specs.List.{list_all}
use Rattle.std.specs.Map.{keys_of}
use Rattle.std.proofs.lemmas.Bool.Decides.{nat_tests, Decides-at, Decides-and, Decides-or, Decides-like}
use Rattle.std.proofs.lemmas.List.{length-map}
use Rattle.std.proofs.lemmas.List.Elements.{All-map}
use Rattle.std.proofs.lemmas.List.Folds.{Any-from_list_any, list_all_at, list_any_at}
use Rattle.std.proofs.lemmas.Map.Entries.{length-keys_of}
use Rattle.std.proofs.lemmas.Option.{get_or_from_slice_get, slice_get-get_or, slice_get-map, slice_get_within}
use Rattle.certificate.specs.declared.values.Fault.{Fault}
use Rattle.plan_core.specs.declared.plans.Participant.{Participant}
use Rattle.plan_core.specs.declared.plans.Participant.TheVariants.{Sending, Interrupt}
use Rattle.plan_core.specs.Contents.{Contents}
use Rattle.plan_core.specs.Labels.{name_at}
use Rattle.plan_core.specs.Limits.{IsKnown, IsWithinLimits}
use Rattle.plan_core.specs.Pairs.{pairs_of}
use Rattle.plan_core.specs.Participants.{participants_of, participant_count, names_both}
use Rattle.plan_core.proofs.ContentsLemmas.{participant_known}
use Rattle.plan_core.proofs.ListLemmas.{some_at}
use Rattle.plan_core.proofs.PairLaws.{parts_of_IsPair}
use Rattle.plan_core.proofs.SenderPlaceLemmas.{pair_within}
use Rattle.verdicts.specs.Faults.{AreFaults}
use Rattle.mending.specs.Left.{HaveOneName, SendSame, AreSame, IsUnsafe, Left, MakesUnsafe, AreLeft}
use Rattle.mending.specs.Numbers.{place_of, number_in, number_at, number_count, numbers_at, numbers_of, all_numbers, is_among, AreBelow}
use Rattle.mending.proofs.FaultPlaces.{pair_of_fault, fault_of_unsafe}
use Rattle.mending.proofs.Places.{not_true, place_few, place_decides}

-- ---- numbers are below their count

place_at_most : {X : Type 0} (name : List ℕ) (entries : List (List ℕ × X)) → place_of name entries < length entries + 1
place_at_most name entries = omega (arith, place_few name (keys_of entries), length-keys_of entries)

number_below : (plan other : Contents) (p : Participant) → number_in plan other p < number_count plan
number_below plan other (Sending c m) = omega (arith, place_at_most (name_at other.messages m) plan.messages)
number_below plan other (Interrupt k) = omega (arith, place_at_most (name_at other.interrupts k) plan.interrupts)

pub all_below : (plan other : Contents) (faults : List (ℕ × Fault)) → AreBelow (number_count plan) (all_numbers plan other faults)
all_below plan other faults =
    All-map (λ (two : ℕ × ℕ). (two.0 < number_count plan) × (two.1 < number_count plan)) (numbers_of plan other) faults (λ k d h. (number_below plan other _, number_below plan other _))

-- ---- equal numbers, equal names

module _ (plan other : Contents) where
  name_stands : {X : Type 0} (entries : List (List ℕ × X)) (k : ℕ) → k < length entries → slice_get (keys_of entries) k ≡ Some (name_at entries k)
  name_stands entries k h = slice_get-get_or (keys_of entries) k [] (omega (arith, h, length-keys_of entries))

  names_decide : (p q : Participant) → IsKnown plan p → (number_in plan other q ≡ number_in plan plan p → HaveOneName plan other (Some p) (Some q)) × (HaveOneName plan other (Some p) (Some q) → number_in plan other q ≡ number_in plan plan p)
  names_decide (Sending c m) (Sending d n) known = (
    λ e. place_decides (name_at plan.messages m) (name_at other.messages n) (keys_of plan.messages) m (name_stands plan.messages m known.1) (sym e),
    λ e. ap (λ (name : List ℕ). place_of name plan.messages) (sym e),
  )
  names_decide (Sending c m) (Interrupt l) known = (λ e. absurd (omega (arith, e, place_at_most (name_at plan.messages m) plan.messages)), λ e. absurd e)
  names_decide (Interrupt k) (Sending d n) known = (λ e. absurd (omega (arith, e, place_at_most (name_at other.messages n) plan.messages)), λ e. absurd e)
  names_decide (Interrupt k) (Interrupt l) known = (
    λ e. place_decides (name_at plan.interrupts k) (name_at other.interrupts l) (keys_of plan.interrupts) k (name_stands plan.interrupts k known) (omega (arith, e)),
    λ e. ap (λ (name : List ℕ). length plan.messages + 1 + place_of name plan.interrupts) (sym e),
  )

  module _ (within : IsWithinLimits plan) where
    sends_decide : (x v : ℕ) → x < participant_count plan → v < participant_count other → Decides (number_at plan other v == number_at plan plan x) (SendSame plan other x v)
    sends_decide x v h i =
        let p = some_at (participants_of plan) x h in
        let q = some_at (participants_of other) v i in
        let one = names_decide p.0 q.0 (participant_known plan within x p.0 p.1) in
        let mine = ap (number_in plan plan) (get_or_from_slice_get (participants_of plan) x p.0 (Interrupt 0) p.1) in
        let its = ap (number_in plan other) (get_or_from_slice_get (participants_of other) v q.0 (Interrupt 0) q.1) in (
          λ e. subst (λ (o : Option Participant × Option Participant). HaveOneName plan other o.0 o.1) (λ j. (sym p.1 j, sym q.1 j)) (one.0 (sym its ∙ (eqb-true (number_at plan other v) (number_at plan plan x) e ∙ mine))),
          λ s. eq-eqb (number_at plan other v) (number_at plan plan x) (its ∙ (one.1 (subst (λ (o : Option Participant × Option Participant). HaveOneName plan other o.0 o.1) (λ j. (p.1 j, q.1 j)) s) ∙ sym mine)),
        )

    pairs_decide : (x y v w : ℕ) → x < participant_count plan → y < participant_count plan → v < participant_count other → w < participant_count other → Decides (names_both (number_at plan plan x) (number_at plan plan y) (numbers_at plan other (v, w))) (AreSame plan other (x, y) (v, w))
    pairs_decide x y v w a b c d =
        let m = number_at plan plan x in
        let n = number_at plan plan y in
        let k = number_at plan other v in
        let l = number_at plan other w in
        let straight = Decides-and (k == m) (l == n) (sends_decide x v a c) (sends_decide y w b d) in
        let crossed = Decides-and (k == n) (l == m) (sends_decide y v b c) (sends_decide x w a d) in
        let swapped = Decides-like (k == n && l == m) (λ (both : SendSame plan other y v × SendSame plan other x w). (both.1, both.0)) (λ (both : SendSame plan other x w × SendSame plan other y v). (both.1, both.0)) crossed in
        Decides-or (k == m && l == n) (k == n && l == m) straight swapped

-- ---- unsafe pairs and their numbers

numbers_stand : (plan other : Contents) (faults : List (ℕ × Fault)) (k p : ℕ) (f : Fault) (x y : ℕ) → slice_get faults k ≡ Some (p, f) → slice_get (pairs_of other) p ≡ Some (x, y) → slice_get (all_numbers plan other faults) k ≡ Some (numbers_at plan other (x, y))
numbers_stand plan other faults k p f x y e at =
    slice_get-map (numbers_of plan other) faults k ∙ (ap (option_map (numbers_of plan other)) e ∙ ap (λ (two : ℕ × ℕ). Some (numbers_at plan other two)) (get_or_from_slice_get (pairs_of other) p (x, y) (0, 0) at))

module _ (plan other : Contents) (faults : List (ℕ × Fault)) (are : AreFaults other faults) where
  -- each two numbers are those of an unsafe pair
  unsafe_at : (k : ℕ) (two : ℕ × ℕ) → slice_get (all_numbers plan other faults) k ≡ Some two → (q : ℕ × ℕ) × IsUnsafe other q × (two ≡ numbers_at plan other q)
  unsafe_at k two e =
      let found = some_at faults k (omega (arith, slice_get_within (all_numbers plan other faults) k two e, length-map faults (numbers_of plan other))) in
      let it = pair_of_fault other faults are k found.0.0 found.0.1 found.1 in
      let stand = numbers_stand plan other faults k found.0.0 found.0.1 it.x it.y found.1 it.at in
      let both : Some two ≡ Some (numbers_at plan other (it.x, it.y)) = sym e ∙ stand in
      let same : two ≡ numbers_at plan other (it.x, it.y) = cc in
      ((it.x, it.y), (it.is_pair, it.faulty), same)

  -- and those of each unsafe pair stand somewhere
  unsafe_stands : (q : ℕ × ℕ) → IsUnsafe other q → (k : ℕ) × (slice_get (all_numbers plan other faults) k ≡ Some (numbers_at plan other q))
  unsafe_stands q unsafe =
      let it = fault_of_unsafe other faults are q.0 q.1 unsafe.0 unsafe.1 in
      (it.t, numbers_stand plan other faults it.t it.p it.f q.0 q.1 it.stands it.at)

  -- two numbers are among them exactly where an unsafe pair has these, in this order or the other one
  among_decides : (two : ℕ × ℕ) → Decides (is_among (all_numbers plan other faults) two) ((q : ℕ × ℕ) × (IsUnsafe other q × (names_both two.0 two.1 (numbers_at plan other q) ≡ true)))
  among_decides two = (to, from)
    where
      test : ℕ × ℕ → Bool
      test = names_both two.0 two.1

      to : is_among (all_numbers plan other faults) two ≡ true → (q : ℕ × ℕ) × (IsUnsafe other q × (test (numbers_at plan other q) ≡ true))
      to e =
          let all = all_numbers plan other faults in
          let any = Any-from_list_any test all e in
          let r = unsafe_at any.0 any.1 (slice_get-get_or all any.0 any.1 any.2 ∙ ap Some any.3) in
          (r.0, (r.1, ap test (sym r.2) ∙ any.4))

      from : ((q : ℕ × ℕ) × (IsUnsafe other q × (test (numbers_at plan other q) ≡ true))) → is_among (all_numbers plan other faults) two ≡ true
      from r =
          let all = all_numbers plan other faults in
          let own = numbers_at plan other r.0 in
          let it = unsafe_stands r.0 r.1.0 in
          list_any_at test all it.0 (0, 0) (slice_get_within all it.0 own it.1) (ap test (get_or_from_slice_get all it.0 own (0, 0) it.1) ∙ r.1.1)

-- ---- what an edit leaves, and what it makes

names_either : (a b c d : ℕ) → names_both a b (c, d) ≡ names_both c d (a, b)
names_either a b c d = grind (arith, nat_tests)

some_fails : {X : Type 0} (test : X → Bool) (xs : List X) → list_all test xs ≡ false → (k : ℕ) × (x : X) × (slice_get xs k ≡ Some x) × (test x ≡ false)
some_fails test [] e = cc
some_fails {X} test (x ∷ xs) e = by (test x) refl e (λ f. some_fails test xs f)
  where
    by : (b : Bool) → test x ≡ b → (b && list_all test xs) ≡ false → (list_all test xs ≡ false → (k : ℕ) × (y : X) × (slice_get xs k ≡ Some y) × (test y ≡ false)) → (k : ℕ) × (y : X) × (slice_get (x ∷ xs) k ≡ Some y) × (test y ≡ false)
    by false is f rest = (0, x, refl, is)
    by true is f rest = let r = rest f in (suc r.0, r.1, r.2, r.3)

module _ (plan edited : Contents) (within : IsWithinLimits plan) (faults after : List (ℕ × Fault)) (are : AreFaults plan faults) (are_after : AreFaults edited after) where
  same_numbers : (p q : ℕ × ℕ) → p.0 < p.1 → p.1 < participant_count plan → q.0 < q.1 → q.1 < participant_count edited → Decides (names_both (number_at plan plan p.0) (number_at plan plan p.1) (numbers_at plan edited q)) (AreSame plan edited p q)
  same_numbers p q a b c d = pairs_decide plan edited within p.0 p.1 q.0 q.1 (omega (arith, a, b)) b (omega (arith, c, d)) d

  is_left : (p : ℕ × ℕ) → p.0 < p.1 → p.1 < participant_count plan → Decides (is_among (all_numbers plan edited after) (numbers_at plan plan p)) (Left plan edited p)
  is_left p a b =
      let decides = among_decides plan edited after are_after (numbers_at plan plan p) in (
        λ t. let r = decides.0 t in
            let parts = parts_of_IsPair edited r.0.0 r.0.1 r.1.0.0 in
            (r.0, r.1.0, (same_numbers p r.0 a b parts.0 parts.1).0 r.1.1),
        λ l. let parts = parts_of_IsPair edited l.0.0 l.0.1 l.1.0 in
            decides.1 (l.0, (l.1, (same_numbers p l.0 a b parts.0 parts.1).1 l.2)),
      )

  was_unsafe : (q : ℕ × ℕ) → q.0 < q.1 → q.1 < participant_count edited → Decides (is_among (all_numbers plan plan faults) (numbers_at plan edited q)) ((p : ℕ × ℕ) × IsUnsafe plan p × AreSame plan edited p q)
  was_unsafe q c d =
      let its = numbers_at plan edited q in
      let decides = among_decides plan plan faults are its in (
        λ t. let r = decides.0 t in
            let own = numbers_at plan plan r.0 in
            let parts = parts_of_IsPair plan r.0.0 r.0.1 r.1.0.0 in
            (r.0, r.1.0, (same_numbers r.0 q parts.0 parts.1 c d).0 (names_either own.0 own.1 its.0 its.1 ∙ r.1.1)),
        λ l. let own = numbers_at plan plan l.0 in
            let parts = parts_of_IsPair plan l.0.0 l.0.1 l.1.0 in
            decides.1 (l.0, (l.1, names_either its.0 its.1 own.0 own.1 ∙ (same_numbers l.0 q parts.0 parts.1 c d).1 l.2)),
      )

  what_is_left : (left : List Bool) → left ≡ map (is_among (all_numbers plan edited after)) (all_numbers plan plan faults) → AreLeft plan faults edited left
  what_is_left left e = record {
    whole = ap length e ∙ (length-map (all_numbers plan plan faults) (is_among (all_numbers plan edited after)) ∙ length-map faults (numbers_of plan plan));
    each = λ k p f two b stands at got.
        let later = all_numbers plan edited after in
        let stand = numbers_stand plan plan faults k p f two.0 two.1 stands at in
        let here = ap (λ (l : List Bool). slice_get l k) e ∙ (slice_get-map (is_among later) (all_numbers plan plan faults) k ∙ ap (option_map (is_among later)) stand) in
        let both : Some b ≡ Some (is_among later (numbers_at plan plan two)) = sym got ∙ here in
        let same : b ≡ is_among later (numbers_at plan plan two) = cc in
        let parts = pair_within plan p two.0 two.1 at in
        Decides-at b (is_among later (numbers_at plan plan two)) same (is_left two parts.0 parts.1);
  }

  new_pair : (q : ℕ × ℕ) → IsUnsafe edited q → is_among (all_numbers plan plan faults) (numbers_at plan edited q) ≡ false → MakesUnsafe plan edited
  new_pair q unsafe new =
      let parts = parts_of_IsPair edited q.0 q.1 unsafe.0 in
      (q, unsafe, λ p was same. let impossible : true ≡ false = sym ((was_unsafe q parts.0 parts.1).1 (p, was, same)) ∙ new in cc)

  what_is_made : list_all (is_among (all_numbers plan plan faults)) (all_numbers plan edited after) ≡ false → MakesUnsafe plan edited
  what_is_made e =
      let fails = some_fails (is_among (all_numbers plan plan faults)) (all_numbers plan edited after) e in
      let r = unsafe_at plan edited after are_after fails.0 fails.1 fails.2 in
      new_pair r.0 r.1 (ap (is_among (all_numbers plan plan faults)) (sym r.2) ∙ fails.3)

  nothing_made : MakesUnsafe plan edited → list_all (is_among (all_numbers plan plan faults)) (all_numbers plan edited after) ≡ false
  nothing_made m =
      let before = all_numbers plan plan faults in
      let later = all_numbers plan edited after in
      let its = numbers_at plan edited m.0 in
      let parts = parts_of_IsPair edited m.0.0 m.0.1 m.1.0 in
      let it = unsafe_stands plan edited after are_after m.0 m.1 in
      let new : is_among before its ≡ false = not_true (is_among before its) (λ t. let r = (was_unsafe m.0 parts.0 parts.1).0 t in m.2 r.0 r.1 r.2) in
      list_all_at (is_among before) later it.0 (0, 0) (slice_get_within later it.0 its it.1) (ap (is_among before) (get_or_from_slice_get later it.0 its (0, 0) it.1) ∙ new)

  -- what an answer says that was found by the numbers
  pub answer_says : {V : Type 0} (items : V → List Bool) (answer : Option V) (before later : List (ℕ × ℕ)) → before ≡ all_numbers plan plan faults → later ≡ all_numbers plan edited after → MatchOption answer (list_all (is_among before) later ≡ false) (λ left. (list_all (is_among before) later ≡ true) × (items left ≡ map (is_among later) before)) → (IsTrue (is_none answer) ↔ MakesUnsafe plan edited) × IfSome answer (λ left. AreLeft plan faults edited (items left))
  answer_says items None before later e f h =
      ((λ t. what_is_made ((λ i. list_all (is_among (sym e i)) (sym f i)) ∙ h), λ m. refl), tt)
  answer_says items (Some left) before later e f h =
      let none = λ (m : MakesUnsafe plan edited). sym h.0 ∙ ((λ i. list_all (is_among (e i)) (f i)) ∙ nothing_made m) in
      ((λ t. cc, λ m. let impossible : true ≡ false = none m in cc), what_is_left (items left) (h.1 ∙ (λ i. map (is_among (f i)) (e i))))
