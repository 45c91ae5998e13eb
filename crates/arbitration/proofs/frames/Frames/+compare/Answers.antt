use Rattle.std.proofs.Common.{◌∙◌, Bool, true, false, IsTrue, ◌≡◌, ◌≤◌, ◌*◌, suc, take, length, refl, ap, subst, arith, inl, inr, List, sym, ℕ}
use Rattle.std.proofs.lemmas.Bool.{cases_lt}
use Rattle.std.proofs.lemmas.Option.{slice_get_read}
use Rattle.message_tree.specs.Bits.{SplitAt}
use Rattle.message_tree.specs.Counts.{greatest_of}
use Rattle.message_tree.specs.Drops.{refused_of}
use Rattle.message_tree.specs.Sizes.{frame_slots, payload_slots, tail_slots}
use Rattle.message_tree.specs.Texts.{message, FrameText, PayloadText, TailText}
use Rattle.message_tree.specs.Trees.{PayloadTree, TailTree, last}
use Rattle.arbitration.specs.Frames.{next_tree, frame_of, rest_after, steps_of, step_of, trees_of}
use Rattle.arbitration.specs.Ways.{header_of, AckedText, AreOutcomes, Step, IsBeginning}
use Rattle.arbitration.proofs.CommonBytes.{with_rests, parted_room, byte_room, refused_room}
use Rattle.arbitration.proofs.FrameLemmas.{again_at, one_name, alone_of, slots_named, named_within}
use Rattle.arbitration.proofs.RowLemmas.{told_at, count_at, same_steps, slots_after, byte_height, one_more_step, rest_at, slots_at, rest_ended, rest_goes_on, same_rest}
use Rattle.arbitration.proofs.Nodes.{all_room, payload_bound, tail_bound, frame_bound, acked_room, refused_slots, some_tail, bytes_part, frames_part, frames_answered, write_splits_read, read_splits_write, reads_only_part, byte_and_last, last_and_byte, stops_are, stop_and_again, again_and_stop, agains_are}
use Rattle.arbitration.proofs.frames.Frames.+compare.Goals as goal

-- what is tested is not so
never : (b : Bool) → b ≡ false → IsTrue b → ⊥
never b e i = let f : true ≡ false = sym i ∙ e in cc

-- ---- numbers

pub numbers-returns-then-first-second : goal.numbers-returns-then-first-second
numbers-returns-then-first-second t c =
    let es = c.args.self.now.entries.items in
    let e = c.requires.frames c.args.first c.index-entry.result.now (slice_get_read es (length es) c.args.first c.index-entry.result.now refl c.requires.first c.index-entry.ensures) in
    alone_of es c.args.first c.args.second c.index-entry.result.now e c.if-first-second.true

pub numbers-frames-requires : goal.numbers-frames-requires
numbers-frames-requires t c =
    let es = c.args.self.now.entries.items in
    let e = c.requires.frames c.args.first c.index-entry.result.now (slice_get_read es (length es) c.args.first c.index-entry.result.now refl c.requires.first c.index-entry.ensures) in
    let g = c.requires.frames c.args.second c.index.result.now (slice_get_read es (length es) c.args.second c.index.result.now refl c.requires.second c.index.ensures) in
    (omega (arith, e.before), (c.requires.frames, (e.frame, g.frame)))

pub numbers-returns : goal.numbers-returns
numbers-returns t c =
    let es = c.args.self.now.entries.items in
    let e = c.requires.frames c.args.first c.index-entry.result.now (slice_get_read es (length es) c.args.first c.index-entry.result.now refl c.requires.first c.index-entry.ensures) in
    let g = c.requires.frames c.args.second c.index.result.now (slice_get_read es (length es) c.args.second c.index.result.now refl c.requires.second c.index.ensures) in
    λ u v m n. let i : u ≡ frame_of (trees_of es) c.index-entry.result.now.frame = one_name (trees_of es) c.args.first u (frame_of (trees_of es) c.index-entry.result.now.frame) m e.named in
    let j : v ≡ frame_of (trees_of es) c.index.result.now.frame = one_name (trees_of es) c.args.second v (frame_of (trees_of es) c.index.result.now.frame) n g.named in
    rw (i, j) c.frames.ensures

-- ---- frames

pub frames-acked-acked-requires : goal.frames-acked-acked-requires
frames-acked-acked-requires t c =
    let known = trees_of c.args.self.now.entries.items in
    let p = c.header-first_bits.ensures known c.requires.first.told in
    let q = c.header-second_bits.ensures known c.requires.second.told in
    let n = λ (k : ℕ) (s : SplitAt (header_of (message (frame_of known c.args.first.now))) (header_of (message (frame_of known c.args.second.now))) k). never c.always_part.result c.if-always_part.false ((c.always_part.ensures _ _ p q).1 (k, s)) in
    (omega arith, (c.requires.frames, (c.requires.first, (c.requires.second, n))))

pub frames-returns-then-always_part : goal.frames-returns-then-always_part
frames-returns-then-always_part t c =
    let known = trees_of c.args.self.now.entries.items in
    let f = frame_of known c.args.first.now in
    let g = frame_of known c.args.second.now in
    let p = c.header-first_bits.ensures known c.requires.first.told in
    let q = c.header-second_bits.ensures known c.requires.second.told in
    frames_part f g c.partings-parted.result ((c.always_part.ensures _ _ p q).0 c.if-always_part.true) (c.partings-parted.ensures _ _ p q)

pub frames-nexts-refused-requires : goal.frames-nexts-refused-requires
frames-nexts-refused-requires t c =
    let h = c.refused.ensures.height in
    let i = c.refused-2.ensures.height in
    (omega (arith, h), (c.requires.frames, (omega (arith, h, c.requires.first.inside), omega (arith, i, c.requires.second.inside))))

pub frames-answered-requires-clause-acked : goal.frames-answered-requires-clause-acked
frames-answered-requires-clause-acked t c =
    let known = trees_of c.args.self.now.entries.items in
    acked_room (frame_of known c.args.first.now) (AckedText (frame_of known c.args.second.now)) c.acked-acked.result c.acked-acked.ensures (omega (arith, c.requires.first.slots))

pub frames-answered-requires-clause-refused : goal.frames-answered-requires-clause-refused
frames-answered-requires-clause-refused t c =
    let known = trees_of c.args.self.now.entries.items in
    let e = ap tail_slots (c.refused.ensures.tree known) in
    refused_room (next_tree known c.refused.result) (next_tree known c.refused-2.result) c.nexts-refused.result c.nexts-refused.ensures (omega (arith, e, refused_slots (frame_of known c.args.first.now), c.requires.first.slots))

pub frames-returns : goal.frames-returns
frames-returns t c =
    let known = trees_of c.args.self.now.entries.items in
    let f = frame_of known c.args.first.now in
    let g = frame_of known c.args.second.now in
    let p = c.header-first_bits.ensures known c.requires.first.told in
    let q = c.header-second_bits.ensures known c.requires.second.told in
    let h = subst (λ (r : TailTree). AreOutcomes (TailText r) (TailText (refused_of g)) c.nexts-refused.result) (c.refused.ensures.tree known) (subst (λ (s : TailTree). AreOutcomes (TailText (next_tree known c.refused.result)) (TailText s) c.nexts-refused.result) (c.refused-2.ensures.tree known) c.nexts-refused.ensures) in
    frames_answered f g c.partings-parted.result c.answered.result c.acked-acked.result c.nexts-refused.result (λ k s. never c.always_part.result c.if-always_part.false ((c.always_part.ensures _ _ p q).1 (k, s))) (c.partings-parted.ensures _ _ p q) c.acked-acked.ensures h c.answered.ensures

-- ---- what follows the header

pub acked-returns-in-Write-second : goal.acked-returns-in-Write-second
acked-returns-in-Write-second t c =
    let known = trees_of c.args.self.now.entries.items in
    let e = ap (frame_of known) c.in-Write.is in
    let f = ap (frame_of known) c.in-Write-second.is in
    rw (e, f) c.rows.ensures

pub acked-returns-in-Read-second : goal.acked-returns-in-Read-second
acked-returns-in-Read-second t c =
    let known = trees_of c.args.self.now.entries.items in
    let e = ap (frame_of known) c.in-Write.is in
    let f = ap (frame_of known) c.in-Read-second.is in
    absurd ((rw (e, f) at c.requires.together) 7 (write_splits_read c.in-Write.v.address c.in-Read-second.field-0.address))

pub acked-returns-in-Write-second-2 : goal.acked-returns-in-Write-second-2
acked-returns-in-Write-second-2 t c =
    let known = trees_of c.args.self.now.entries.items in
    let e = ap (frame_of known) c.in-Read.is in
    let f = ap (frame_of known) c.in-Write-second-2.is in
    absurd ((rw (e, f) at c.requires.together) 7 (read_splits_write c.in-Read.r.address c.in-Write-second-2.field-0.address))

pub acked-returns-in-Read-second-2 : goal.acked-returns-in-Read-second-2
acked-returns-in-Read-second-2 t c =
    let known = trees_of c.args.self.now.entries.items in
    let e = ap (frame_of known) c.in-Read.is in
    let f = ap (frame_of known) c.in-Read-second-2.is in
    rw (e, f) c.reads.ensures

pub reads-reads_met-requires-clause-room : goal.reads-reads_met-requires-clause-room
reads-reads_met-requires-clause-room t c =
    let known = trees_of c.args.self.now.entries.items in
    let x = next_tree known c.args.first.now.after in
    all_room (TailText x) (TailText (next_tree known c.args.second.now.after)) c.nexts-ended.result (tail_slots x) (9 * greatest_of c.args.first.now.count) c.nexts-ended.ensures (tail_bound x) (omega (arith, c.requires.slots))

pub reads-returns-then-meets : goal.reads-returns-then-meets
reads-returns-then-meets t c =
    let known = trees_of c.args.self.now.entries.items in
    c.reads_met.ensures (next_tree known c.args.first.now.after) (next_tree known c.args.second.now.after) c.nexts-ended.ensures

pub reads-returns-else-meets : goal.reads-returns-else-meets
reads-returns-else-meets t c =
    let known = trees_of c.args.self.now.entries.items in
    reads_only_part c.args.first.now.count c.args.second.now.count (next_tree known c.args.first.now.after) (next_tree known c.args.second.now.after) c.reads_apart.result (λ m. let e = c.meets.ensures.1 m in cc) c.reads_apart.ensures

-- ---- rows

pub rows-loop-k-init : goal.rows-loop-k-init
rows-loop-k-init t c =
    let known = trees_of c.args.self.now.entries.items in
    let n = c.same_bytes-alike.result in
    let ss = steps_of known c.args.first.now in
    subst (λ (ts : List Step). IsBeginning (take n ss) ts c.beginning-met.result) (same_steps known c.args.first.now c.args.second.now n c.same_bytes-alike.ensures.same) (c.beginning-met.ensures ss c.requires.first.begun)

pub rows-followed_by-requires : goal.rows-followed_by-requires
rows-followed_by-requires t c =
    let known = trees_of c.args.self.now.entries.items in
    let k = c.loop-k.k in
    let p = told_at c.args.first.now.bytes.items c.loop-k.k c.index-a.result.now c.requires.first.told (omega arith) c.index-a.ensures in
    let q = told_at c.args.second.now.bytes.items c.loop-k.k c.index-b.result.now c.requires.second.told (omega arith) c.index-b.ensures in
    let first = c.args.first.now in
    let a = c.index-a.result.now in
    let n = count_at known first k (omega arith) in
    let s = slots_at known first k a (omega arith) c.index-a.ensures in
    record {
      slots = omega (arith, n, c.loop-k.invariant.count, s, c.requires.slots);
      room = parted_room (step_of known a) (step_of known c.index-b.result.now) c.partings-parted.result (9 * c.loop-k.met.bytes) (c.partings-parted.ensures _ _ p q) (omega (arith, n, c.loop-k.invariant.count, s, c.requires.slots));
    }

pub rows-returns-then-always_part : goal.rows-returns-then-always_part
rows-returns-then-always_part t c =
    let known = trees_of c.args.self.now.entries.items in
    let k = c.loop-k.k in
    let p = told_at c.args.first.now.bytes.items c.loop-k.k c.index-a.result.now c.requires.first.told (omega arith) c.index-a.ensures in
    let q = told_at c.args.second.now.bytes.items c.loop-k.k c.index-b.result.now c.requires.second.told (omega arith) c.index-b.ensures in
    let first = c.args.first.now in
    let a = c.index-a.result.now in
    let second = c.args.second.now in
    let b = c.index-b.result.now in
    let ss = steps_of known first in
    let ts = steps_of known second in
    let x = rest_after k known first in
    let y = rest_after k known second in
    let e = rest_at known first k a (omega arith) c.index-a.ensures in
    let f = rest_at known second k b (omega arith) c.index-b.ensures in
    let part = bytes_part a.bits b.bits (rest_after (suc k) known first) (rest_after (suc k) known second) (next_tree known a.refused) (next_tree known b.refused) c.partings-parted.result ((c.always_part.ensures _ _ p q).0 c.if-always_part.true) (c.partings-parted.ensures _ _ p q) in
    let rest : AreOutcomes (PayloadText x) (PayloadText y) c.partings-parted.result = rw (e, f) part in
    with_rests k ss ts (last (next_tree known first.last)) (last (next_tree known second.last)) c.followed_by.result (c.followed_by.ensures (take k ss) (take k ts) x y c.loop-k.invariant rest)

pub rows-nexts-refused-requires : goal.rows-nexts-refused-requires
rows-nexts-refused-requires t c =
    let known = trees_of c.args.self.now.entries.items in
    let k = c.loop-k.k in
    let first = c.args.first.now in
    let a = c.index-a.result.now in
    let second = c.args.second.now in
    let b = c.index-b.result.now in
    let h = byte_height known first k a (omega arith) c.index-a.ensures in
    let i = byte_height known second k b (omega arith) c.index-b.ensures in
    (omega (arith, h), (c.requires.frames, (omega (arith, h, c.requires.first.inside), omega (arith, i, c.requires.second.inside))))

pub rows-in_byte-requires : goal.rows-in_byte-requires
rows-in_byte-requires t c =
    let known = trees_of c.args.self.now.entries.items in
    let k = c.loop-k.k in
    let first = c.args.first.now in
    let a = c.index-a.result.now in
    let s = slots_at known first k a (omega arith) c.index-a.ensures in
    refused_room (next_tree known a.refused) (next_tree known c.index-b.result.now.refused) c.nexts-refused.result c.nexts-refused.ensures (omega (arith, s, c.requires.slots))

pub rows-and-met-requires : goal.rows-and-met-requires
rows-and-met-requires t c =
    let known = trees_of c.args.self.now.entries.items in
    let k = c.loop-k.k in
    let p = told_at c.args.first.now.bytes.items c.loop-k.k c.index-a.result.now c.requires.first.told (omega arith) c.index-a.ensures in
    let q = told_at c.args.second.now.bytes.items c.loop-k.k c.index-b.result.now c.requires.second.told (omega arith) c.index-b.ensures in
    let first = c.args.first.now in
    let a = c.index-a.result.now in
    let b = c.index-b.result.now in
    let n = count_at known first k (omega arith) in
    let s = slots_at known first k a (omega arith) c.index-a.ensures in
    record {
      slots = omega (arith, n, c.loop-k.invariant.count, s, c.requires.slots, some_tail (next_tree known a.refused));
      room = byte_room (step_of known a) (step_of known b) c.in_byte.result (9 * c.loop-k.met.bytes) (c.in_byte.ensures (step_of known a) (step_of known b) (c.partings-parted.ensures _ _ p q) c.nexts-refused.ensures) (omega (arith, n, c.loop-k.invariant.count, s, c.requires.slots));
    }

pub rows-loop-k-preserved : goal.rows-loop-k-preserved
rows-loop-k-preserved t c =
    let known = trees_of c.args.self.now.entries.items in
    let k = c.loop-k.k in
    let p = told_at c.args.first.now.bytes.items c.loop-k.k c.index-a.result.now c.requires.first.told (omega arith) c.index-a.ensures in
    let q = told_at c.args.second.now.bytes.items c.loop-k.k c.index-b.result.now c.requires.second.told (omega arith) c.index-b.ensures in
    let first = c.args.first.now in
    let a = c.index-a.result.now in
    let second = c.args.second.now in
    let b = c.index-b.result.now in
    let s = step_of known a in
    let t = step_of known b in
    let here = c.in_byte.ensures s t (c.partings-parted.ensures _ _ p q) c.nexts-refused.ensures in
    let e = one_more_step known first k a (omega arith) c.index-a.ensures in
    let f = one_more_step known second k b (omega arith) c.index-b.ensures in
    rw (e, f) (c.and-met.ensures (take k (steps_of known first)) (take k (steps_of known second)) s t c.loop-k.invariant (λ j i. never c.always_part.result c.if-always_part.false ((c.always_part.ensures _ _ p q).1 (j, i)), tt) here)

pub rows-followed_by-requires-2 : goal.rows-followed_by-requires-2
rows-followed_by-requires-2 t c =
    let known = trees_of c.args.self.now.entries.items in
    let k = c.loop-k.k in
    let first = c.args.first.now in
    let le : k ≤ length first.bytes.items = omega arith in
    let n = count_at known first k le in
    let s = slots_after known first k le in
    let x = rest_after k known first in
    let e : c.same_from-end.result ≡ k = omega arith in
    let rest = subst (λ (i : ℕ). AreOutcomes (PayloadText (rest_after i known first)) (PayloadText (rest_after i known c.args.second.now)) c.ends.result) e c.ends.ensures in
    record {
      slots = omega (arith, n, c.loop-k.invariant.count, s, c.requires.slots);
      room = all_room (PayloadText x) (PayloadText (rest_after k known c.args.second.now)) c.ends.result (payload_slots x) (9 * c.loop-k.met.bytes) rest (payload_bound x) (omega (arith, n, c.loop-k.invariant.count, s, c.requires.slots));
    }

pub rows-returns : goal.rows-returns
rows-returns t c =
    let known = trees_of c.args.self.now.entries.items in
    let k = c.loop-k.k in
    let first = c.args.first.now in
    let second = c.args.second.now in
    let ss = steps_of known first in
    let ts = steps_of known second in
    let e : c.same_from-end.result ≡ k = omega arith in
    let rest = subst (λ (i : ℕ). AreOutcomes (PayloadText (rest_after i known first)) (PayloadText (rest_after i known second)) c.ends.result) e c.ends.ensures in
    with_rests k ss ts (last (next_tree known first.last)) (last (next_tree known second.last)) c.followed_by-2.result (c.followed_by-2.ensures (take k ss) (take k ts) (rest_after k known first) (rest_after k known second) c.loop-k.invariant rest)

-- ---- ends

pub ends-returns-then-place-min : goal.ends-returns-then-place-min
ends-returns-then-place-min t c =
    let known = trees_of c.args.self.now.entries.items in
    let place = c.args.place in
    let first = c.args.first.now in
    let same = same_rest known first c.args.second.now place (c.requires.same (omega arith)) in
    subst (λ (x : PayloadTree). AreOutcomes (PayloadText (rest_after place known first)) (PayloadText x) c.ending.result) same (c.ending.ensures known c.requires.ended.each)

pub ends-returns-then-len : goal.ends-returns-then-len
ends-returns-then-len t c =
    let known = trees_of c.args.self.now.entries.items in
    let n = c.args.place in
    let same = c.if-len.true in
    let f = rest_ended known c.args.first.now n (omega arith) in
    let g = rest_ended known c.args.second.now n (omega arith) in
    rw (f, g) c.nexts.ensures

pub ends-returns-else-len : goal.ends-returns-else-len
ends-returns-else-len t c =
    let known = trees_of c.args.self.now.entries.items in
    let n = c.args.place in
    let first = c.args.first.now in
    let second = c.args.second.now in
    elim (cases_lt (length first.bytes.items) (length second.bytes.items)) [
      | inl lt ↦ (let b = rest_goes_on known second n (omega arith) in last_and_byte (rest_after n known first) (rest_after n known second) c.none.result b.0.bits (rest_after (suc n) known second) (next_tree known b.0.refused) (next_tree known first.last) (rest_ended known first n (omega arith)) b.1 c.none.ensures)
      | inr le ↦ (let b = rest_goes_on known first n (omega arith) in byte_and_last (rest_after n known first) (rest_after n known second) c.none.result b.0.bits (rest_after (suc n) known first) (next_tree known b.0.refused) (next_tree known second.last) b.1 (rest_ended known second n (omega arith)) c.none.ensures)
    ]

-- ---- what follows

pub nexts-after-requires : goal.nexts-after-requires
nexts-after-requires t c =
    let es = c.args.self.now.entries.items in
    let f = again_at es c.args.first c.in-Again.m c.in-Again.is c.requires.first in
    let g = again_at es c.args.second c.in-Again-second-2.n c.in-Again-second-2.is c.requires.second in
    let l = named_within es c.in-Again.m f.0 f.1 in
    all_room (FrameText f.0) (FrameText g.0) c.numbers.result (frame_slots f.0) 1 (c.numbers.ensures f.0 g.0 f.1 g.1) (frame_bound f.0) (omega (arith, slots_named es c.in-Again.m f.0 c.requires.frames l f.1))

pub nexts-returns-in-Stop-second : goal.nexts-returns-in-Stop-second
nexts-returns-in-Stop-second t c =
    let known = trees_of c.args.self.now.entries.items in
    stops_are (next_tree known c.args.first) (next_tree known c.args.second) c.end_at_once.result (ap (next_tree known) c.in-Stop.is) (ap (next_tree known) c.in-Stop-second.is) c.end_at_once.ensures.both c.end_at_once.ensures.first c.end_at_once.ensures.second

pub nexts-returns-in-Again-second : goal.nexts-returns-in-Again-second
nexts-returns-in-Again-second t c =
    let es = c.args.self.now.entries.items in
    let known = trees_of es in
    let g = again_at es c.args.second c.in-Again-second.field-0 c.in-Again-second.is c.requires.second in
    stop_and_again (next_tree known c.args.first) (next_tree known c.args.second) c.none.result g.0 (ap (next_tree known) c.in-Stop.is) g.2 c.none.ensures

pub nexts-returns-in-Stop-second-2 : goal.nexts-returns-in-Stop-second-2
nexts-returns-in-Stop-second-2 t c =
    let es = c.args.self.now.entries.items in
    let known = trees_of es in
    let f = again_at es c.args.first c.in-Again.m c.in-Again.is c.requires.first in
    again_and_stop (next_tree known c.args.first) (next_tree known c.args.second) c.none-in-Stop-second-2.result f.0 f.2 (ap (next_tree known) c.in-Stop-second-2.is) c.none-in-Stop-second-2.ensures

pub nexts-returns-in-Again-second-2 : goal.nexts-returns-in-Again-second-2
nexts-returns-in-Again-second-2 t c =
    let es = c.args.self.now.entries.items in
    let known = trees_of es in
    let f = again_at es c.args.first c.in-Again.m c.in-Again.is c.requires.first in
    let g = again_at es c.args.second c.in-Again-second-2.n c.in-Again-second-2.is c.requires.second in
    agains_are (next_tree known c.args.first) (next_tree known c.args.second) c.after.result f.0 g.0 c.numbers.result f.2 g.2 (c.numbers.ensures f.0 g.0 f.1 g.1) c.after.ensures
