-- Rows of bytes, and their beginnings.
use Rattle.std.proofs.Common.{◌≡◌, ℕ, zero, suc, ◌+◌, ◌*◌, ◌<◌, ◌≤◌, get_or, List, [], ◌∷◌, ◌++◌, map, take, drop, length, length-append, ap, sym, ◌∙◌, subst, arith, inl, inr}
use Rattle.std.proofs.Math.Numerals.{add-one}
use Rattle.std.proofs.lemmas.Bool.{cases_lt}
use Rattle.std.proofs.lemmas.List.{take_all, take-append-le, get_or_append_left, get_or_push, length-map, drop_all, take-map, drop-map, length-take-le}
use Rattle.std.proofs.lemmas.Option.{get_or_from_slice_get}
use Rattle.plan_core.proofs.ListLemmas.{some_at}
use Rattle.message_tree.specs.Sizes.{payload_slots, tail_slots}
use Rattle.message_tree.specs.Trees.{FrameTree, byte, last}
use Rattle.arbitration.specs.declared.beginnings.Beginning.{Beginning}
use Rattle.arbitration.specs.declared.rows.NumberedByte.{NumberedByte}
use Rattle.arbitration.specs.declared.rows.Next.{Next}
use Rattle.arbitration.specs.declared.rows.Row.{Row}
use Rattle.message_tree.specs.Patterns.{pattern_bits}
use Rattle.arbitration.specs.Choices.{AreChoices}
use Rattle.arbitration.specs.Frames.{AreBeginnings, AreEndings, IsSameFrom, AllTold, next_tree, next_height, bytes_height, step_of, steps_of, rest_after, row_tree}
use Rattle.arbitration.specs.declared.spans.Outcomes.{Outcomes}
use Rattle.message_tree.specs.Texts.{PayloadText}
use Rattle.arbitration.specs.Ways.{AreOutcomes, Step, with_bytes, IsBeginning}
use Rattle.arbitration.proofs.CommonBytes.{slots_left}

-- ---- so many bytes

pub count_at : (known : List FrameTree) (row : Row) (k : ℕ) → k ≤ length row.bytes.items → length (take k (steps_of known row)) ≡ k
count_at known row k l = length-take-le k (steps_of known row) (omega (arith, l, length-map row.bytes.items (step_of known)))

pub same_steps : (known : List FrameTree) (first second : Row) (n : ℕ) → take n first.bytes.items ≡ take n second.bytes.items → take n (steps_of known first) ≡ take n (steps_of known second)
same_steps known first second n e =
    take-map (step_of known) n first.bytes.items ∙ (ap (map (step_of known)) e ∙ sym (take-map (step_of known) n second.bytes.items))

pub slots_after : (known : List FrameTree) (row : Row) (k : ℕ) → k ≤ length row.bytes.items → 9 * k + payload_slots (rest_after k known row) ≤ payload_slots (row_tree known row)
slots_after known row k l =
    slots_left k (steps_of known row) (last (next_tree known row.last)) (omega (arith, l, length-map row.bytes.items (step_of known)))

-- ---- the byte at a place

take_at : (known : List FrameTree) (bs : List NumberedByte) (k : ℕ) (b : NumberedByte) → k < length bs → b ≡ get_or bs k b → take (suc k) (map (step_of known) bs) ≡ take k (map (step_of known) bs) ++ step_of known b ∷ []
take_at known [] k b l e = absurd (omega (arith, l))
take_at known (c ∷ bs) zero b l e = ap (λ (d : NumberedByte). step_of known d ∷ []) (sym e)
take_at known (c ∷ bs) (suc k) b l e = ap (λ (ss : List Step). step_of known c ∷ ss) (take_at known bs k b (omega (arith, l)) e)

drop_at : (known : List FrameTree) (bs : List NumberedByte) (k : ℕ) (b : NumberedByte) → k < length bs → b ≡ get_or bs k b → drop k (map (step_of known) bs) ≡ step_of known b ∷ drop (suc k) (map (step_of known) bs)
drop_at known [] k b l e = absurd (omega (arith, l))
drop_at known (c ∷ bs) zero b l e = ap (λ (d : NumberedByte). step_of known d ∷ map (step_of known) bs) (sym e)
drop_at known (c ∷ bs) (suc k) b l e = drop_at known bs k b (omega (arith, l)) e

height_at : (bs : List NumberedByte) (k : ℕ) (b : NumberedByte) → k < length bs → b ≡ get_or bs k b → next_height b.refused ≤ bytes_height bs
height_at [] k b l e = absurd (omega (arith, l))
height_at (c ∷ bs) zero b l e = let f = ap (λ (d : NumberedByte). next_height d.refused) e in omega (arith, f)
height_at (c ∷ bs) (suc k) b l e = let h = height_at bs k b (omega (arith, l)) e in omega (arith, h)

pub told_at : (bs : List NumberedByte) (k : ℕ) (b : NumberedByte) → AllTold bs → k < length bs → b ≡ get_or bs k b → AreChoices (pattern_bits b.bits) b.choices
told_at [] k b a l e = absurd (omega (arith, l))
told_at (c ∷ bs) zero b a l e = subst (λ (d : NumberedByte). AreChoices (pattern_bits d.bits) d.choices) (sym e) a.0
told_at (c ∷ bs) (suc k) b a l e = told_at bs k b a.1 (omega (arith, l)) e

pub told_more : (bs : List NumberedByte) (b : NumberedByte) → AllTold bs → AreChoices (pattern_bits b.bits) b.choices → AllTold (bs ++ b ∷ [])
told_more [] b a h = (h, tt)
told_more (c ∷ bs) b a h = (a.0, told_more bs b a.1 h)

module _ (known : List FrameTree) (row : Row) (k : ℕ) (b : NumberedByte) (l : k < length row.bytes.items) (e : b ≡ get_or row.bytes.items k b) where
  pub byte_height : next_height b.refused ≤ bytes_height row.bytes.items
  byte_height = height_at row.bytes.items k b l e

  pub one_more_step : take (k + 1) (steps_of known row) ≡ take k (steps_of known row) ++ step_of known b ∷ []
  one_more_step = rw add-one (take_at known row.bytes.items k b l e)

  -- what follows the bytes before it begins with it
  pub rest_at : rest_after k known row ≡ byte b.bits (rest_after (suc k) known row) (next_tree known b.refused)
  rest_at = ap (λ (ss : List Step). with_bytes ss (last (next_tree known row.last))) (drop_at known row.bytes.items k b l e)

  pub slots_at : 9 * k + 9 + tail_slots (next_tree known b.refused) ≤ payload_slots (row_tree known row)
  slots_at =
      let s = slots_after known row k (omega (arith, l)) in
      let f = ap payload_slots rest_at in
      omega (arith, s, f)

-- ---- where rows end

pub rest_ended : (known : List FrameTree) (row : Row) (n : ℕ) → length row.bytes.items ≤ n → rest_after n known row ≡ last (next_tree known row.last)
rest_ended known row n l =
    ap (λ (ss : List Step). with_bytes ss (last (next_tree known row.last))) (drop_all n (steps_of known row) (omega (arith, l, length-map row.bytes.items (step_of known))))

pub rest_goes_on : (known : List FrameTree) (row : Row) (n : ℕ) → n < length row.bytes.items → (b : NumberedByte) × (rest_after n known row ≡ byte b.bits (rest_after (suc n) known row) (next_tree known b.refused))
rest_goes_on known row n l =
    let b = some_at row.bytes.items n l in
    (b.0, rest_at known row n b.0 l (sym (get_or_from_slice_get row.bytes.items n b.0 b.0 b.1)))

-- ---- rows that grow

pub longer_beginnings : (ss : List Step) (s : Step) (old all : List Beginning) (new : Beginning) → AreBeginnings ss old → IsBeginning (ss ++ s ∷ []) (ss ++ s ∷ []) new → all ≡ old ++ new ∷ [] → AreBeginnings (ss ++ s ∷ []) all
longer_beginnings ss s old all new are w e =
    let f = ap length e in
    let l = are.0 in
    let long = length-append ss (s ∷ []) in
    let longer = length-append old (new ∷ []) in (
      omega (arith, f, l, long, longer),
      λ n d lt. rw e (elim (cases_lt n (length old)) [
        | inl less ↦ (let m : suc n ≤ length ss = omega (arith, less, l) in rw (get_or_append_left old (new ∷ []) d n less, take-append-le (suc n) ss (s ∷ []) m) (are.1 n d less))
        | inr ge ↦ (let m : length old ≡ n = omega (arith, lt, ge, f, longer) in let a : length (ss ++ s ∷ []) ≤ suc n = omega (arith, m, l, long) in rw (get_or_push old new d n m, take_all (suc n) (ss ++ s ∷ []) a) w)
      ]),
    )

-- ---- rows that are the same from a place on

pub same_rest : (known : List FrameTree) (first second : Row) (k : ℕ) → IsSameFrom k first second → rest_after k known first ≡ rest_after k known second
same_rest known first second k same =
    let e = drop-map (step_of known) k first.bytes.items ∙ (ap (map (step_of known)) same.bytes ∙ sym (drop-map (step_of known) k second.bytes.items)) in
    ap (λ (ss : List Step). with_bytes ss (last (next_tree known first.last))) e ∙ ap (λ (next : Next). with_bytes (drop k (steps_of known second)) (last (next_tree known next))) same.last

-- ---- endings

pub longer_endings : (known : List FrameTree) (row : Row) (old all : List Outcomes) (new : Outcomes) (k : ℕ) → AreEndings known row old → length old + k ≡ length row.bytes.items → AreOutcomes (PayloadText (rest_after k known row)) (PayloadText (rest_after k known row)) new → all ≡ old ++ new ∷ [] → AreEndings known row all
longer_endings known row old all new k are at w e n m d l s =
    let f = ap length e in
    let longer = length-append old (new ∷ []) in
    rw e (elim (cases_lt n (length old)) [
      | inl less ↦ rw (get_or_append_left old (new ∷ []) d n less) (are n m d less s)
      | inr ge ↦ (let i : length old ≡ n = omega (arith, l, ge, f, longer) in let j : k ≡ m = omega (arith, i, at, s) in rw (get_or_push old new d n i) (subst (λ (p : ℕ). AreOutcomes (PayloadText (rest_after p known row)) (PayloadText (rest_after p known row)) new) j w))
    ])
