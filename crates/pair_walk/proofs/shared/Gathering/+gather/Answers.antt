use Rattle.std.proofs.Common.{ap, sym, ◌∙◌}
use Rattle.message_tree.specs.declared.tree.Frame.{Frame}
use Rattle.message_tree.specs.declared.tree.Payload.{Payload}
use Rattle.message_tree.specs.Trees.{frame_tree, payload_tree, tail_tree, write, byte, again}
use Rattle.pair_walk.proofs.SharedLemmas.{gathered_write, gathered_read, gathered_byte, gathered_again}
use Rattle.pair_walk.proofs.shared.Gathering.+gather.Goals as goal

pub frame-returns-in_ok-acked-in-Write-clause-shows :
    goal.frame-returns-in_ok-acked-in-Write-clause-shows
frame-returns-in_ok-acked-in-Write-clause-shows t c =
    let n = c.in-Write in
    let r = tail_tree n.refused in
    let e = ap frame_tree n.is ∙ ap (λ (p : Payload). write n.address (payload_tree p) r) (sym c.deref.ensures) in
    gathered_write c.tail.new.self.nodes.items c.payload.new.self.nodes.items c.put.new.self.nodes.items c.in_ok-refused-in-Write.refused c.in_ok-acked-in-Write.acked r c.put.result n.address (payload_tree c.deref.result.now) (frame_tree c.args.frame.now) e c.in_ok-refused-in-Write.ensures.shows c.in_ok-acked-in-Write.ensures.keeps c.in_ok-acked-in-Write.ensures.shows c.put.ensures.keeps c.put.ensures.stands

pub frame-returns-in_ok-after-in-Read-clause-shows :
    goal.frame-returns-in_ok-after-in-Read-clause-shows
frame-returns-in_ok-after-in-Read-clause-shows t c =
    let n = c.in-Read in
    let r = tail_tree n.refused in
    gathered_read c.tail-in-Read.new.self.nodes.items c.tail-in-Read-2.new.self.nodes.items c.put-in-Read.new.self.nodes.items c.in_ok-refused-in-Read.refused c.in_ok-after-in-Read.after r c.put-in-Read.result n.address n.count (tail_tree n.after) (frame_tree c.args.frame.now) (ap frame_tree n.is) c.in_ok-refused-in-Read.ensures.shows c.in_ok-after-in-Read.ensures.keeps c.in_ok-after-in-Read.ensures.shows c.put-in-Read.ensures.keeps c.put-in-Read.ensures.stands

pub payload-returns-in_ok-acked-in-Byte-clause-shows :
    goal.payload-returns-in_ok-acked-in-Byte-clause-shows
payload-returns-in_ok-acked-in-Byte-clause-shows t c =
    let n = c.in-Byte in
    let r = tail_tree n.refused in
    let e = ap payload_tree n.is ∙ ap (λ (p : Payload). byte n.bits (payload_tree p) r) (sym c.deref.ensures) in
    gathered_byte c.tail.new.self.nodes.items c.payload.new.self.nodes.items c.put.new.self.nodes.items c.in_ok-refused-in-Byte.refused c.in_ok-acked-in-Byte.acked r c.put.result n.bits (payload_tree c.deref.result.now) (payload_tree c.args.payload.now) e c.in_ok-refused-in-Byte.ensures.shows c.in_ok-acked-in-Byte.ensures.keeps c.in_ok-acked-in-Byte.ensures.shows c.put.ensures.keeps c.put.ensures.stands

pub tail-returns-in_ok-frame-in-Again-clause-shows :
    goal.tail-returns-in_ok-frame-in-Again-clause-shows
tail-returns-in_ok-frame-in-Again-clause-shows t c =
    let e = ap tail_tree c.in-Again.is ∙ ap (λ (p : Frame). again (frame_tree p)) (sym c.deref.ensures) in
    gathered_again c.frame.new.self.nodes.items c.put-in-Again.new.self.nodes.items c.in_ok-frame-in-Again.frame c.put-in-Again.result (frame_tree c.deref.result.now) (tail_tree c.args.tail.now) e c.in_ok-frame-in-Again.ensures.shows c.put-in-Again.ensures.keeps c.put-in-Again.ensures.stands
