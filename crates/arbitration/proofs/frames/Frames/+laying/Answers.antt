use Rattle.std.proofs.Common.{◌*◌, [], ◌∷◌, ◌++◌, List, map, length, length-append, ap, sym, ◌∙◌, arith}
use Rattle.std.proofs.lemmas.Result.{on_ok_weaker}
use Rattle.message_tree.specs.declared.tree.Payload.{Payload}
use Rattle.message_tree.specs.Drops.{payload_weight}
use Rattle.message_tree.specs.Sizes.{frame_slots, payload_slots, tail_slots}
use Rattle.message_tree.specs.Trees.{PayloadTree, TailTree, frame_tree, payload_tree, tail_tree, write, read, byte, last}
use Rattle.arbitration.specs.declared.rows.NumberedByte.{NumberedByte}
use Rattle.arbitration.specs.Frames.{next_tree, steps_of, step_of, trees_of}
use Rattle.arbitration.specs.Ways.{Step, with_bytes}
use Rattle.arbitration.proofs.CommonBytes.{with_more, byte_room, refused_room}
use Rattle.arbitration.proofs.FrameLemmas.{grows_on, longer, next_grown, steps_grown, is_row_grown, longer_steps, longer_row, named_within}
use Rattle.arbitration.proofs.frames.Frames.+laying.Goals as goal

-- ---- a byte

pub lay_payload-in_byte-here-requires : goal.lay_payload-in_byte-here-requires
lay_payload-in_byte-here-requires t c =
    let put = c.in_ok-refused-in-Byte in
    let r = next_tree (trees_of c.lay_tail.new.self.entries.items) put.refused in
    let e = ap tail_slots put.ensures.tree in
    let f = ap payload_slots (ap payload_tree c.in-Byte.is) in
    refused_room r r c.nexts.result c.nexts.ensures (omega (arith, e, f, c.requires.slots))

pub lay_payload-push-requires-clause-room : goal.lay_payload-push-requires-clause-room
lay_payload-push-requires-clause-room t c =
    let put = c.in_ok-refused-in-Byte in
    let b : NumberedByte = record { bits = c.in-Byte.bits; choices = c.of_byte-choices.result; refused = put.refused } in
    let s = step_of (trees_of c.lay_tail.new.self.entries.items) b in
    let e = ap tail_slots put.ensures.tree in
    let f = ap payload_slots (ap payload_tree c.in-Byte.is) in
    byte_room s s c.in_byte-here.result (9 * length c.args.row.now.bytes.items) (c.in_byte-here.ensures s s (c.partings.ensures _ _ c.of_byte-choices.ensures c.of_byte-choices.ensures) c.nexts.ensures) (omega (arith, e, f, c.requires.slots))

pub lay_payload-lay_payload-requires : goal.lay_payload-lay_payload-requires
lay_payload-lay_payload-requires t c =
    let i = c.in-Byte in
    let put = c.in_ok-refused-in-Byte in
    let old = c.args.self.now.entries.items in
    let es = c.lay_tail.new.self.entries.items in
    let row = c.args.row.now in
    let b : NumberedByte = record { bits = i.bits; choices = c.of_byte-choices.result; refused = put.refused } in
    let s = step_of (trees_of es) b in
    let is = is_row_grown old es put.ensures.grows row c.requires.row in
    let pushed = c.in_ok-push-in-Byte.ensures in
    let begun = pushed.begun (steps_of (trees_of es) row) s is.begun (c.in_byte-here.ensures s s (c.partings.ensures _ _ c.of_byte-choices.ensures c.of_byte-choices.ensures) c.nexts.ensures) in
    let e = ap payload_tree i.is ∙ ap (λ (p : Payload). byte i.bits (payload_tree p) (tail_tree i.refused)) (sym c.deref.ensures) in
    let w = ap payload_weight e in
    let l = ap payload_slots e in
    let n = ap length pushed.bytes in
    (omega (arith, w), (put.ensures.frames, (longer_row es row c.push.new.self b pushed.bytes is c.of_byte-choices.ensures put.ensures.inside pushed.last begun, omega (arith, l, n, length-append row.bytes.items (b ∷ []), c.requires.slots))))

pub lay_payload-returns-in_ok-push-in-Byte-clause-grows : goal.lay_payload-returns-in_ok-push-in-Byte-clause-grows
lay_payload-returns-in_ok-push-in-Byte-clause-grows t c =
    on_ok_weaker c.lay_payload.result (λ g. grows_on c.args.self.now.entries.items c.lay_tail.new.self.entries.items c.lay_payload.new.self.entries.items c.in_ok-refused-in-Byte.ensures.grows g) c.lay_payload.ensures.grows

pub lay_payload-returns-in_ok-push-in-Byte-clause-tree : goal.lay_payload-returns-in_ok-push-in-Byte-clause-tree
lay_payload-returns-in_ok-push-in-Byte-clause-tree t c =
    let i = c.in-Byte in
    let put = c.in_ok-refused-in-Byte in
    let old = c.args.self.now.entries.items in
    let es = c.lay_tail.new.self.entries.items in
    let row = c.args.row.now in
    let b : NumberedByte = record { bits = i.bits; choices = c.of_byte-choices.result; refused = put.refused } in
    let s = step_of (trees_of es) b in
    let ss = steps_of (trees_of old) row in
    let x = payload_tree c.deref.result.now in
    let e = ap payload_tree i.is ∙ ap (λ (p : Payload). byte i.bits (payload_tree p) (tail_tree i.refused)) (sym c.deref.ensures) in
    let f = longer_steps es row c.push.new.self b c.in_ok-push-in-Byte.ensures.bytes ∙ ap (λ (us : List Step). us ++ s ∷ []) (steps_grown old es put.ensures.grows row c.requires.row.inside) in
    let g = ap (λ (us : List Step). with_bytes us x) f ∙ (with_more ss (s ∷ []) x ∙ (ap (λ (r : TailTree). with_bytes ss (byte i.bits x r)) put.ensures.tree ∙ ap (with_bytes ss) (sym e))) in
    on_ok_weaker c.lay_payload.result (λ h. h ∙ g) c.lay_payload.ensures.tree

-- ---- the end of the bytes

pub lay_payload-returns-in_ok-row-in-Last-clause-row : goal.lay_payload-returns-in_ok-row-in-Last-clause-row
lay_payload-returns-in_ok-row-in-Last-clause-row t c =
    let put = c.in_ok-row-in-Last.ensures in
    let is = is_row_grown c.args.self.now.entries.items c.lay_tail-in-Last.new.self.entries.items put.grows c.args.row.now c.requires.row in
    record { inside = omega (arith, is.inside, put.inside); told = is.told; begun = is.begun }

pub lay_payload-returns-in_ok-row-in-Last-clause-tree : goal.lay_payload-returns-in_ok-row-in-Last-clause-tree
lay_payload-returns-in_ok-row-in-Last-clause-tree t c =
    let put = c.in_ok-row-in-Last in
    let old = c.args.self.now.entries.items in
    let es = c.lay_tail-in-Last.new.self.entries.items in
    let row = c.args.row.now in
    let e = steps_grown old es put.ensures.grows row c.requires.row.inside in
    ap (λ (ss : List Step). with_bytes ss (last (next_tree (trees_of es) put.field-0))) e ∙ (ap (λ (r : TailTree). with_bytes (steps_of (trees_of old) row) (last r)) put.ensures.tree ∙ ap (with_bytes (steps_of (trees_of old) row)) (sym (ap payload_tree c.in-Last.is)))

-- ---- what follows, and frames

pub lay_tail-returns-in_ok-number-in-Again-clause-inside : goal.lay_tail-returns-in_ok-number-in-Again-clause-inside
lay_tail-returns-in_ok-number-in-Again-clause-inside t c =
    omega (arith, named_within c.lay.new.self.entries.items c.in_ok-number-in-Again.number (frame_tree c.deref.result.now) c.in_ok-number-in-Again.ensures.named)

pub numbered-returns-in_ok-row-in-Write-clause-tree : goal.numbered-returns-in_ok-row-in-Write-clause-tree
numbered-returns-in_ok-row-in-Write-clause-tree t c =
    let i = c.in-Write in
    let put = c.in_ok-refused-in-Write in
    let lay = c.in_ok-lay_payload-in-Write.ensures in
    let es = c.lay_tail.new.self.entries.items in
    let new = c.lay_payload.new.self.entries.items in
    let x = payload_tree c.deref.result.now in
    let none = ap (λ bs. with_bytes (map (step_of (trees_of es)) bs) x) c.new-row.ensures.bytes in
    let e = lay.tree ∙ (none ∙ ap payload_tree c.deref.ensures) in
    let f = next_grown es new lay.grows put.refused put.ensures.inside ∙ put.ensures.tree in
    ap (λ (y : PayloadTree). write i.address y (next_tree (trees_of new) put.refused)) e ∙ (ap (write i.address (payload_tree i.acked.value)) f ∙ sym (ap frame_tree i.is))

pub numbered-returns-in_ok-row-in-Write-clause-frame : goal.numbered-returns-in_ok-row-in-Write-clause-frame
numbered-returns-in_ok-row-in-Write-clause-frame t c =
    let lay = c.in_ok-lay_payload-in-Write.ensures in
    let e = ap frame_slots (numbered-returns-in_ok-row-in-Write-clause-tree t c) in
    record { inside = omega (arith, lay.row.inside, c.in_ok-refused-in-Write.ensures.inside, longer c.lay_tail.new.self.entries.items c.lay_payload.new.self.entries.items lay.grows); told = (c.of_header.ensures, lay.row.told); begun = (lay.row.begun, record { all = c.in_ok-row-in-Write.ensures.all; each = c.in_ok-row-in-Write.ensures.each }); slots = omega (arith, e, c.requires.slots) }

pub numbered-returns-in_ok-refused-in-Read-clause-tree : goal.numbered-returns-in_ok-refused-in-Read-clause-tree
numbered-returns-in_ok-refused-in-Read-clause-tree t c =
    let i = c.in-Read in
    let after = c.in_ok-after-in-Read in
    let put = c.in_ok-refused-in-Read in
    let es = c.lay_tail-in-Read.new.self.entries.items in
    let new = c.lay_tail-in-Read-2.new.self.entries.items in
    let e = next_grown es new put.ensures.grows after.after after.ensures.inside ∙ after.ensures.tree in
    ap (λ (y : TailTree). read i.address i.count y (next_tree (trees_of new) put.refused)) e ∙ (ap (read i.address i.count (tail_tree i.after)) put.ensures.tree ∙ sym (ap frame_tree i.is))

pub numbered-returns-in_ok-refused-in-Read-clause-frame : goal.numbered-returns-in_ok-refused-in-Read-clause-frame
numbered-returns-in_ok-refused-in-Read-clause-frame t c =
    let put = c.in_ok-refused-in-Read.ensures in
    let e = ap frame_slots (numbered-returns-in_ok-refused-in-Read-clause-tree t c) in
    record { inside = omega (arith, put.inside, c.in_ok-after-in-Read.ensures.inside, longer c.lay_tail-in-Read.new.self.entries.items c.lay_tail-in-Read-2.new.self.entries.items put.grows); told = c.of_header-in-Read.ensures; begun = tt; slots = omega (arith, e, c.requires.slots) }
