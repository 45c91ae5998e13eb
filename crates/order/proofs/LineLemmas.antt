-- The lines of a report, one after another.
use Rattle.std.proofs.Common.{◌≡◌, ℕ, zero, suc, ◌+◌, ◌≤◌, Bool, true, false, not, ◌&&◌, Option, Some, None, is_none, Result, Ok, Err, OnOk, is_ok, if◌then◌else◌, List, [], ◌∷◌, ◌++◌, length, drop, slice_get, codes, min, inl, inr, refl, ap, sym, ◌∙◌, arith, append_assoc, append-nil}
use Rattle.std.proofs.lemmas.Bool.{cases_lt}
use Rattle.std.proofs.lemmas.List.{drop_all}
use Rattle.std.proofs.lemmas.Option.{slice_get_past}
use Rattle.arbitration.specs.declared.spans.Outcomes.{Outcomes}
use Rattle.arbitration.specs.declared.spans.Slots.{Slots}
use Rattle.order.specs.Lines.{slots_text, ways_text, pair_lines}
use Rattle.order.specs.WayParts.{way_part}
use Rattle.plan_core.specs.Contents.{Contents}
use Rattle.plan_core.specs.Labels.{label_of, participant_label}
use Rattle.plan_core.specs.Participants.{participants_of, participant_count}

-- who is no participant has no label
pub no_label : (plan : Contents) (p : ℕ) → participant_count plan ≤ p → label_of plan p ≡ []
unfolding label_of
no_label plan p h = ap (participant_label plan) (slice_get_past (participants_of plan) p h)

-- the ways that are written one after another are those that are joined
pub parts_are_ways : (first second : List ℕ) (o : Outcomes) → way_part true (codes "both") o.both ++ (way_part (is_none o.both) first o.first ++ way_part (is_none o.both && is_none o.first) second o.second) ≡ ways_text first second (Some o)
unfolding ways_text
parts_are_ways first second o = of_slots o.both o.first o.second
  where
    of_slots : (a b c : Option Slots) → way_part true (codes "both") a ++ (way_part (is_none a) first b ++ way_part (is_none a && is_none b) second c) ≡ ways_text first second (Some (record { both = a; first = b; second = c }))
    of_slots None None None = refl
    of_slots None None (Some c) = sym (append-nil (second ++ (codes " " ++ slots_text c)))
    of_slots None (Some b) None = refl
    of_slots None (Some b) (Some c) =
        ap (λ t. (first ++ (codes " " ++ slots_text b)) ++ t) (sym (append-nil (codes ", " ++ (second ++ (codes " " ++ slots_text c)))))
    of_slots (Some a) None None = refl
    of_slots (Some a) None (Some c) =
        ap (λ t. (codes "both" ++ (codes " " ++ slots_text a)) ++ t) (sym (append-nil (codes ", " ++ (second ++ (codes " " ++ slots_text c)))))
    of_slots (Some a) (Some b) None = refl
    of_slots (Some a) (Some b) (Some c) =
        ap (λ t. (codes "both" ++ (codes " " ++ slots_text a)) ++ ((codes ", " ++ (first ++ (codes " " ++ slots_text b))) ++ t))
        (sym (append-nil (codes ", " ++ (second ++ (codes " " ++ slots_text c)))))

-- ---- one line more

drop_suc : {X : Type 0} (xs : List X) (k : ℕ) (x : X) → slice_get xs k ≡ Some x → drop k xs ≡ x ∷ drop (suc k) xs
drop_suc [] k x e = cc
drop_suc (y ∷ xs) zero x e = let d : y ≡ x = cc in ap (λ z. z ∷ xs) d
drop_suc (y ∷ xs) (suc k) x e = drop_suc xs k x e

-- ---- at the end

no_way_left : (plan : Contents) (n : ℕ) (pairs : List (ℕ × ℕ)) → pair_lines plan n pairs [] ≡ []
no_way_left plan n [] = refl
no_way_left plan n (p ∷ pairs) = refl

pub no_pair_left : (plan : Contents) (pairs : List (ℕ × ℕ)) (ways : List (Option Outcomes)) (k n : ℕ) → k ≡ min (length pairs) (length ways) → pair_lines plan n (drop k pairs) (drop k ways) ≡ []
no_pair_left plan pairs ways k n e =
    elim (cases_lt (length ways) (length pairs)) [
      | inl less ↦
          let past : length ways ≤ k = omega arith in
          ap (pair_lines plan n (drop k pairs)) (drop_all k ways past) ∙ no_way_left plan n (drop k pairs)
      | inr more ↦
          let past : length pairs ≤ k = omega arith in
          ap (λ ps. pair_lines plan n ps (drop k ways)) (drop_all k pairs past)
    ]

-- ---- the ways of a pair as they are written

pub on_ok : {X E : Type 0} (r : Result X E) {P Q : Type 0} → (P → Q) → OnOk r P → OnOk r Q
on_ok (Ok x) f h = f h
on_ok (Err e) f h = tt

pub negated : (a b : Bool) → a ≡ not b → b ≡ not a
negated a true e = sym (ap not e)
negated a false e = sym (ap not e)

pub unsafe_written : {X E : Type 0} (r : Result X E) (old now first second : List ℕ) (way : Option Outcomes) → way ≡ None → now ≡ (if is_ok r then old ++ codes "unsafe" else old) → OnOk r (now ≡ old ++ ways_text first second way)
unfolding ways_text
unsafe_written (Ok x) old now first second way none e = e ∙ ap (λ w. old ++ ways_text first second w) (sym none)
unsafe_written (Err x) old now first second way none e = tt

pub ways_written : (old one two three first second : List ℕ) (o : Outcomes) (way : Option Outcomes) (alone last : Bool) → way ≡ Some o → alone ≡ is_none o.both → last ≡ (is_none o.both && is_none o.first) → one ≡ old ++ way_part true (codes "both") o.both → two ≡ one ++ way_part alone first o.first → three ≡ two ++ way_part last second o.second → three ≡ old ++ ways_text first second way
ways_written old one two three first second o way alone last is a l e f g =
    let both : List ℕ = way_part true (codes "both") o.both in
    let one_way : List ℕ = way_part (is_none o.both) first o.first in
    let other : List ℕ = way_part (is_none o.both && is_none o.first) second o.second in
    g
    ∙ (ap (λ t. t ++ way_part last second o.second) f
    ∙ (ap (λ b. (one ++ way_part b first o.first) ++ way_part last second o.second) a
    ∙ (ap (λ b. (one ++ way_part (is_none o.both) first o.first) ++ way_part b second o.second) l
    ∙ (ap (λ t. (t ++ one_way) ++ other) e
    ∙ (append_assoc (old ++ both) one_way other
    ∙ (append_assoc old both (one_way ++ other)
    ∙ (ap (λ t. old ++ t) (parts_are_ways first second o)
    ∙ ap (λ w. old ++ ways_text first second w) (sym is))))))))
