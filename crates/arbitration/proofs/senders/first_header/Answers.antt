use Rattle.std.proofs.Common.{◌≡◌, ap, sym, ◌∙◌, subst, length, List, refl, arith}
use Rattle.std.proofs.lemmas.Option.{slice_get_read}
use Rattle.message_tree.specs.declared.bits.Bit.{Bit}
use Rattle.message_tree.specs.Texts.{Sender, message}
use Rattle.arbitration.specs.declared.senders.Sent.{Sent}
use Rattle.arbitration.specs.Choices.{AreChoices}
use Rattle.arbitration.specs.Frames.{frame_of, trees_of}
use Rattle.arbitration.specs.Senders.{IsSent}
use Rattle.arbitration.specs.Ways.{header_of}
use Rattle.arbitration.proofs.FrameLemmas.{one_name}
use Rattle.arbitration.proofs.SenderLemmas.{named_sender, sent_within, interrupt_header}
use Rattle.arbitration.proofs.senders.first_header.Goals as goal

pub index-requires : goal.index-requires
index-requires c =
    omega (arith, sent_within c.args.frames.now.entries.items c.args.sent c.in-Message.n c.in-Message.is c.requires.sent.0 c.requires.sent.1)

pub returns-in-Message : goal.returns-in-Message
returns-in-Message c s i =
    let es = c.args.frames.now.entries.items in
    let known = trees_of es in
    let n = c.in-Message.n in
    let e = c.index.result.now in
    let is = c.requires.frames n e (slice_get_read es (length es) n e refl (sent_within es c.args.sent n c.in-Message.is s i) c.index.ensures) in
    let f = named_sender known n s (subst (λ (v : Sent). IsSent known v s) c.in-Message.is i) in
    let same : frame_of known e.frame ≡ f.0 = one_name known n (frame_of known e.frame) f.0 is.named f.1 in
    let told = c.header.ensures known is.frame.told in
    subst (λ (t : Sender). AreChoices (header_of t) c.header.result) (ap message same ∙ sym f.2) told

pub returns-in-Interrupt : goal.returns-in-Interrupt
returns-in-Interrupt c s i =
    let e = interrupt_header (trees_of c.args.frames.now.entries.items) c.in-Interrupt.address s (subst (λ (v : Sent). IsSent (trees_of c.args.frames.now.entries.items) v s) c.in-Interrupt.is i) in
    subst (λ (bs : List Bit). AreChoices bs c.of_header.result) e c.of_header.ensures
