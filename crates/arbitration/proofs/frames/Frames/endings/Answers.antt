use Rattle.std.proofs.Common.{◌≡◌, ℕ, suc, ◌-◌, ◌*◌, ◌≤◌, [], ◌∷◌, length, ap, subst, arith}
use Rattle.message_tree.specs.Sizes.{payload_slots}
use Rattle.message_tree.specs.Texts.{PayloadText}
use Rattle.arbitration.specs.Frames.{next_height, next_tree, step_of, rest_after, trees_of}
use Rattle.arbitration.specs.Ways.{AreOutcomes}
use Rattle.arbitration.proofs.CommonBytes.{refused_room, same_together}
use Rattle.arbitration.proofs.Nodes.{all_room, payload_bound}
use Rattle.arbitration.proofs.RowLemmas.{told_at, byte_height, rest_at, rest_ended, slots_after, slots_at, longer_endings}
use Rattle.arbitration.proofs.frames.Frames.endings.Goals as goal

-- ---- what follows the last byte

pub loop-n-init : goal.loop-n-init
loop-n-init c =
    let known = trees_of c.args.self.now.entries.items in
    let row = c.args.row.now in
    let n = length row.bytes.items in
    let none = ap length c.new-endings.ensures.items in
    let w : (k : ℕ) → n ≤ k → AreOutcomes (PayloadText (rest_after k known row)) (PayloadText (rest_after k known row)) c.nexts-ending.result =
    λ k l. rw (rest_ended known row k l) c.nexts-ending.ensures in
    record {
      all = omega (arith, none, c.in_ok-push.ensures.len, c.new-endings.ensures.len);
      each = longer_endings known row c.new-endings.result.items c.push.new.self.items c.nexts-ending.result n (λ m k d l e. absurd (omega (arith, l, none))) (omega (arith, none)) (w n (omega arith)) c.in_ok-push.ensures.items;
      ending = λ k e. w k (omega (arith, e));
    }

-- ---- a byte before it

pub nexts-refused-requires : goal.nexts-refused-requires
nexts-refused-requires c =
    let known = trees_of c.args.self.now.entries.items in
    let h = byte_height known c.args.row.now (c.len-count.result - 1 - c.loop-n.n) c.index-byte.result.now (omega arith) c.index-byte.ensures in
    let inside : next_height c.index-byte.result.now.refused ≤ length c.args.self.now.entries.items = omega (arith, h, c.requires.row.inside) in
    record { frames = c.requires.frames; first = inside; second = inside }

pub in_byte-here-requires : goal.in_byte-here-requires
in_byte-here-requires c =
    let known = trees_of c.args.self.now.entries.items in
    let b = c.index-byte.result.now in
    let r = next_tree known b.refused in
    let s = slots_at known c.args.row.now (c.len-count.result - 1 - c.loop-n.n) b (omega arith) c.index-byte.ensures in
    refused_room r r c.nexts-refused.result c.nexts-refused.ensures (omega (arith, s, c.requires.slots))

pub followed_by-ending-requires : goal.followed_by-ending-requires
followed_by-ending-requires c =
    let known = trees_of c.args.self.now.entries.items in
    let row = c.args.row.now in
    let k = c.len-count.result - 1 - c.loop-n.n in
    let b = c.index-byte.result.now in
    let s = step_of known b in
    let p = told_at row.bytes.items k b c.requires.row.told (omega arith) c.index-byte.ensures in
    let begun = c.and.ensures [] [] s s c.none.ensures (same_together s) (c.in_byte-here.ensures s s (c.partings.ensures _ _ p p) c.nexts-refused.ensures) in
    let x = rest_after (suc k) known row in
    let le = slots_after known row (suc k) (omega arith) in
    record {
      slots = omega (arith, begun.count);
      room = all_room (PayloadText x) (PayloadText x) c.loop-n.ending (payload_slots x) (9 * c.and.result.bytes) (c.loop-n.invariant.ending (suc k) (omega arith)) (payload_bound x) (omega (arith, begun.count, le, c.requires.slots));
    }

pub loop-n-preserved : goal.loop-n-preserved
loop-n-preserved c =
    let known = trees_of c.args.self.now.entries.items in
    let row = c.args.row.now in
    let k = c.len-count.result - 1 - c.loop-n.n in
    let b = c.index-byte.result.now in
    let s = step_of known b in
    let p = told_at row.bytes.items k b c.requires.row.told (omega arith) c.index-byte.ensures in
    let begun = c.and.ensures [] [] s s c.none.ensures (same_together s) (c.in_byte-here.ensures s s (c.partings.ensures _ _ p p) c.nexts-refused.ensures) in
    let x = rest_after (suc k) known row in
    let all = c.followed_by-ending.ensures (s ∷ []) (s ∷ []) x x begun (c.loop-n.invariant.ending (suc k) (omega arith)) in
    let w : AreOutcomes (PayloadText (rest_after k known row)) (PayloadText (rest_after k known row)) c.followed_by-ending.result =
    rw (rest_at known row k b (omega arith) c.index-byte.ensures) all in
    let inv = c.loop-n.invariant in
    record {
      all = omega (arith, c.in_ok-push-2.ensures.len, inv.all);
      each = longer_endings known row c.loop-n.endings.items c.push-in-loop-n.new.self.items c.followed_by-ending.result k inv.each (omega (arith, inv.all)) w c.in_ok-push-2.ensures.items;
      ending = λ m e. let f : k ≡ m = omega (arith, e) in subst (λ (i : ℕ). AreOutcomes (PayloadText (rest_after i known row)) (PayloadText (rest_after i known row)) c.followed_by-ending.result) f w;
    }
