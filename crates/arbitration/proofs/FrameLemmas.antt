-- Frames by their numbers.
use Rattle.std.specs.Bool.{OnTrue}
use Rattle.std.proofs.Common.{◌≡◌, ℕ, Bool, true, false, zero, suc, ◌+◌, ◌<◌, ◌≤◌, ◌^◌, Some, slice_get, List, [], ◌∷◌, ◌++◌, map, drop, length, length-append, append_assoc, append-nil, refl, ap, sym, ◌∙◌, subst, arith, inl, inr, ◌⊎◌}
use Rattle.std.proofs.lemmas.List.{map-append}
use Rattle.std.proofs.lemmas.Option.{slice_get_within}
use Rattle.plan_core.proofs.ListLemmas.{some_at}
use Rattle.message_tree.specs.Sizes.{frame_slots}
use Rattle.message_tree.specs.Texts.{FrameText}
use Rattle.message_tree.specs.Trees.{FrameTree, write, read, PayloadTree, last, TailTree, again}
use Rattle.arbitration.specs.declared.frames.Entry.{Entry}
use Rattle.arbitration.specs.declared.frames.NumberedFrame.{NumberedFrame}
use Rattle.arbitration.specs.declared.frames.NumberedFrame.TheVariants.{Write, Read}
use Rattle.arbitration.specs.declared.rows.Next.{Next}
use Rattle.arbitration.specs.declared.rows.Next.TheVariants.{Stop, Again}
use Rattle.arbitration.specs.declared.rows.NumberedByte.{NumberedByte}
use Rattle.arbitration.specs.declared.rows.Row.{Row}
use Rattle.message_tree.specs.Patterns.{pattern_bits}
use Rattle.arbitration.specs.Choices.{AreChoices}
use Rattle.arbitration.specs.Frames.{Names, Grows, AllTold, AreBeginnings, IsBegun, IsEnded, IsFrame, IsRow, rest_after, next_height, bytes_height, row_height, frame_height, step_of, steps_of, row_tree, IsInside, IsEntry, AreFrames, next_tree, again_or_stop, frame_of, trees_after, trees_of}
use Rattle.arbitration.specs.Ways.{AreOutcomes, Step, with_bytes}
use Rattle.arbitration.proofs.RowLemmas.{told_more}

-- ---- as many trees as entries

long_after : (known : List FrameTree) (es : List Entry) → length (trees_after known es) ≡ length known + length es
long_after known [] = omega arith
long_after known (e ∷ es) =
    let t = frame_of known e.frame in
    omega (arith, long_after (known ++ t ∷ []) es, length-append known (t ∷ []))

pub trees_long : (es : List Entry) → length (trees_of es) ≡ length es
trees_long es = omega (arith, long_after [] es)

pub named_at : (es : List Entry) (n : ℕ) → n < length es → (f : FrameTree) × Names (trees_of es) n f
named_at es n l = some_at (trees_of es) n (omega (arith, l, trees_long es))

pub named_within : (es : List Entry) (n : ℕ) (f : FrameTree) → Names (trees_of es) n f → n < length es
named_within es n f m = omega (arith, slice_get_within (trees_of es) n f m, trees_long es)

-- one number names one tree
pub one_name : (known : List FrameTree) (n : ℕ) (f g : FrameTree) → Names known n f → Names known n g → f ≡ g
one_name known n f g a b = let e : Some f ≡ Some g = sym a ∙ b in cc

-- and it names whatever is the same
pub named_as : (known : List FrameTree) (n : ℕ) (a b : NumberedFrame) (same : Bool) → Names known n (frame_of known a) → OnTrue same ((ts : List FrameTree) → frame_of ts a ≡ frame_of ts b) → OnTrue same (Names known n (frame_of known b))
named_as known n a b false m e = tt
named_as known n a b true m e = m ∙ ap Some (e known)

-- of whom both have one number
pub alone_of : (es : List Entry) (k l : ℕ) (e : Entry) → IsEntry es k e → k ≡ l → (f g : FrameTree) → Names (trees_of es) k f → Names (trees_of es) l g → AreOutcomes (FrameText f) (FrameText g) e.alone
alone_of es k l e is same f g m n =
    let known = trees_of es in
    let u : f ≡ frame_of known e.frame = one_name known k f (frame_of known e.frame) m is.named in
    let v : g ≡ frame_of known e.frame = one_name known k g (frame_of known e.frame) (subst (λ (i : ℕ). Names known i g) (sym same) n) is.named in
    rw (u, v) is.alone

pub slots_named : (es : List Entry) (n : ℕ) (f : FrameTree) → AreFrames es → n < length es → Names (trees_of es) n f → frame_slots f < 2 ^ 32
slots_named es n f are l m =
    let e = some_at es n l in
    let is = are n e.0 e.1 in
    let u : f ≡ frame_of (trees_of es) e.0.frame = one_name (trees_of es) n f (frame_of (trees_of es) e.0.frame) m is.named in
    let v = ap frame_slots u in
    omega (arith, v, is.frame.slots)

pub again_at : (es : List Entry) (next : Next) (n : ℕ) → next ≡ Again n → IsInside es next → (f : FrameTree) × Names (trees_of es) n f × (next_tree (trees_of es) next ≡ again f)
again_at es next n e l =
    let m : n < length es = let i = subst (IsInside es) e l in omega (arith, i) in
    let f = named_at es n m in
    (f.0, f.1, ap (next_tree (trees_of es)) e ∙ ap again_or_stop f.1)

-- ---- what is written in terms of some trees stays so with more of them

get_left : {X : Type 0} (xs ys : List X) (k : ℕ) → k < length xs → slice_get (xs ++ ys) k ≡ slice_get xs k
get_left [] ys k l = absurd (omega (arith, l))
get_left (x ∷ xs) ys zero l = refl
get_left (x ∷ xs) ys (suc k) l = get_left xs ys k (omega (arith, l))

get_last : {X : Type 0} (xs : List X) (x : X) → slice_get (xs ++ x ∷ []) (length xs) ≡ Some x
get_last [] x = refl
get_last (y ∷ xs) x = get_last xs x

-- ---- more entries

after_more : (known : List FrameTree) (es more : List Entry) → trees_after known (es ++ more) ≡ trees_after (trees_after known es) more
after_more known [] more = refl
after_more known (e ∷ es) more = after_more (known ++ frame_of known e.frame ∷ []) es more

after_known : (known : List FrameTree) (es : List Entry) → (more : List FrameTree) × (trees_after known es ≡ known ++ more)
after_known known [] = ([], sym (append-nil known))
after_known known (e ∷ es) =
    let t = frame_of known e.frame in
    let r = after_known (known ++ t ∷ []) es in
    (t ∷ r.0, r.1 ∙ append_assoc known (t ∷ []) r.0)

pub grows_on : (a b c : List Entry) → Grows a b → Grows b c → Grows a c
grows_on a b c g h = (g.0 ++ h.0, h.1 ∙ (ap (λ (es : List Entry). es ++ h.0) g.1 ∙ append_assoc a g.0 h.0))

module _ (old new : List Entry) (grows : Grows old new) where
  trees_grow : (more : List FrameTree) × (trees_of new ≡ trees_of old ++ more)
  trees_grow =
      let m = after_known (trees_of old) grows.0 in
      (m.0, ap trees_of grows.1 ∙ (after_more [] old grows.0 ∙ m.1))

  same_name : (n : ℕ) → n < length old → slice_get (trees_of new) n ≡ slice_get (trees_of old) n
  same_name n l =
      let t = trees_grow in
      rw t.1 (get_left (trees_of old) t.0 n (omega (arith, l, trees_long old)))

  pub longer : length old ≤ length new
  longer = omega (arith, ap length grows.1, length-append old grows.0)

  pub name_grown : (n : ℕ) (f : FrameTree) → Names (trees_of old) n f → Names (trees_of new) n f
  name_grown n f m = same_name n (named_within old n f m) ∙ m

  pub next_grown : (next : Next) → IsInside old next → next_tree (trees_of new) next ≡ next_tree (trees_of old) next
  next_grown Stop l = refl
  next_grown (Again n) l = ap again_or_stop (same_name n (omega (arith, l)))

  bytes_grown : (bs : List NumberedByte) → bytes_height bs ≤ length old → map (step_of (trees_of new)) bs ≡ map (step_of (trees_of old)) bs
  bytes_grown [] l = refl
  bytes_grown (b ∷ bs) l =
      let e : step_of (trees_of new) b ≡ step_of (trees_of old) b = ap (λ (t : TailTree). record { bits = b.bits; refused = t }) (next_grown b.refused (omega (arith, l))) in
      let f = bytes_grown bs (omega (arith, l)) in
      cc

  pub steps_grown : (row : Row) → row_height row ≤ length old → steps_of (trees_of new) row ≡ steps_of (trees_of old) row
  steps_grown row l = bytes_grown row.bytes.items (omega (arith, l))

  rest_grown : (row : Row) (k : ℕ) → row_height row ≤ length old → rest_after k (trees_of new) row ≡ rest_after k (trees_of old) row
  rest_grown row k l =
      ap (λ (ss : List Step). with_bytes (drop k ss) (last (next_tree (trees_of new) row.last))) (steps_grown row l) ∙ ap (λ (t : TailTree). with_bytes (drop k (steps_of (trees_of old) row)) (last t)) (next_grown row.last (omega (arith, l)))

  pub frame_grown : (frame : NumberedFrame) → frame_height frame ≤ length old → frame_of (trees_of new) frame ≡ frame_of (trees_of old) frame
  frame_grown (Write w) l =
      let e = rest_grown w.acked 0 (omega (arith, l)) in
      let f = next_grown w.refused (omega (arith, l)) in
      ap (λ (x : PayloadTree). write w.address x (next_tree (trees_of new) w.refused)) e ∙ ap (write w.address (row_tree (trees_of old) w.acked)) f
  frame_grown (Read r) l =
      let e = next_grown r.after (omega (arith, l)) in
      let f = next_grown r.refused (omega (arith, l)) in
      ap (λ (x : TailTree). read r.address r.count x (next_tree (trees_of new) r.refused)) e ∙ ap (read r.address r.count (next_tree (trees_of old) r.after)) f

  ended_grown : (row : Row) → row_height row ≤ length old → IsEnded (trees_of old) row → IsEnded (trees_of new) row
  ended_grown row l is =
      record {
        all = is.all;
        each = λ n k d m e. rw (rest_grown row k l) (is.each n k d m e);
      }

  begun_grown : (frame : NumberedFrame) → frame_height frame ≤ length old → IsBegun old frame → IsBegun new frame
  begun_grown (Write w) l b =
      (subst (λ (ss : List Step). AreBeginnings ss w.acked.beginnings.items) (sym (steps_grown w.acked (omega (arith, l)))) b.0, ended_grown w.acked (omega (arith, l)) b.1)
  begun_grown (Read r) l b = tt

  is_grown : (frame : NumberedFrame) → IsFrame old frame → IsFrame new frame
  is_grown frame is =
      let e = ap frame_slots (frame_grown frame is.inside) in
      record { inside = omega (arith, is.inside, longer); told = is.told; begun = begun_grown frame is.inside is.begun; slots = omega (arith, e, is.slots) }

  entry_grown : (k : ℕ) (e : Entry) → IsEntry old k e → IsEntry new k e
  entry_grown k e is =
      let f = frame_grown e.frame is.frame.inside in
      record { before = is.before; frame = is_grown e.frame is.frame; named = rw f (name_grown k (frame_of (trees_of old) e.frame) is.named); alone = rw f is.alone }

-- ---- one more entry

pub pushed_at : {X : Type 0} (es : List X) (e q : X) (k : ℕ) → slice_get (es ++ e ∷ []) k ≡ Some q → (slice_get es k ≡ Some q) ⊎ ((k ≡ length es) × (q ≡ e))
pushed_at [] e q zero h = inr (refl, cc)
pushed_at [] e q (suc k) h = cc
pushed_at (x ∷ es) e q zero h = inl h
pushed_at (x ∷ es) e q (suc k) h = elim (pushed_at es e q k h) [ inl i ↦ inl i | inr i ↦ inr (omega (arith, i.0), i.1) ]

module _ (old new : List Entry) (e : Entry) (pushed : new ≡ old ++ e ∷ []) (is : IsFrame old e.frame) where
  pub push_grows : Grows old new
  push_grows = (e ∷ [], pushed)

  pub push_named : Names (trees_of new) (length old) (frame_of (trees_of old) e.frame)
  push_named =
      let t = frame_of (trees_of old) e.frame in
      rw (pushed, after_more [] old (e ∷ []), sym (trees_long old)) (get_last (trees_of old) t)

  pushed_entry : AreOutcomes (FrameText (frame_of (trees_of old) e.frame)) (FrameText (frame_of (trees_of old) e.frame)) e.alone → IsEntry new (length old) e
  pushed_entry alone =
      let f = frame_grown old new push_grows e.frame is.inside in
      record { before = is.inside; frame = is_grown old new push_grows e.frame is; named = rw f push_named; alone = rw f alone }

  pub push_frames : AreFrames old → AreOutcomes (FrameText (frame_of (trees_of old) e.frame)) (FrameText (frame_of (trees_of old) e.frame)) e.alone → AreFrames new
  push_frames are alone k q h =
      elim (pushed_at old e q k (rw pushed at h)) [
        | inl before ↦ entry_grown old new push_grows k q (are k q before)
        | inr here ↦ subst (λ (i : ℕ). IsEntry new i q) (sym here.0) (subst (IsEntry new (length old)) (sym here.1) (pushed_entry alone))
      ]

-- ---- rows in terms of more entries, and of more bytes

pub is_row_grown : (old new : List Entry) → Grows old new → (row : Row) → IsRow old row → IsRow new row
is_row_grown old new grows row is =
    record {
      inside = omega (arith, is.inside, longer old new grows);
      told = is.told;
      begun = subst (λ (ss : List Step). AreBeginnings ss row.beginnings.items) (sym (steps_grown old new grows row is.inside)) is.begun;
    }

height_more : (bs : List NumberedByte) (b : NumberedByte) (n : ℕ) → bytes_height bs ≤ n → next_height b.refused ≤ n → bytes_height (bs ++ b ∷ []) ≤ n
height_more [] b n l m = omega (arith, m)
height_more (c ∷ bs) b n l m = let h = height_more bs b n (omega (arith, l)) m in omega (arith, l, h)

module _ (es : List Entry) (old new : Row) (b : NumberedByte) (e : new.bytes.items ≡ old.bytes.items ++ b ∷ []) where
  pub longer_steps : steps_of (trees_of es) new ≡ steps_of (trees_of es) old ++ step_of (trees_of es) b ∷ []
  longer_steps =
      let f = step_of (trees_of es) in
      ap (map f) e ∙ map-append f old.bytes.items (b ∷ [])

  pub longer_row : IsRow es old → AreChoices (pattern_bits b.bits) b.choices → IsInside es b.refused → new.last ≡ old.last → AreBeginnings (steps_of (trees_of es) old ++ step_of (trees_of es) b ∷ []) new.beginnings.items → IsRow es new
  longer_row is told inside same begun =
      let l = ap next_height same in
      let h = height_more old.bytes.items b (length es) (omega (arith, is.inside)) inside in
      let m = ap bytes_height e in
      record { inside = omega (arith, is.inside, l, h, m); told = subst AllTold (sym e) (told_more old.bytes.items b is.told told); begun = subst (λ (ss : List Step). AreBeginnings ss new.beginnings.items) (sym longer_steps) begun }
