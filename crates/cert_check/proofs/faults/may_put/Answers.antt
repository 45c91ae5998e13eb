use Rattle.std.proofs.Common.{◌≡◌, ◌↔◌, Bool, true, false, sym, subst}
use Rattle.message_tree.specs.declared.items.Item.TheVariants.{Sent}
use Rattle.message_tree.specs.Texts.{SenderText}
use Rattle.plan_core.specs.Senders.{what_is_sent}
use Rattle.places.specs.Places.{rest_of}
use Rattle.cert_check.specs.Wires.{GoesOnWith}
use Rattle.cert_check.proofs.WireLemmas.{not_along, at_end}
use Rattle.cert_check.proofs.faults.may_put.Goals as goal

pub returns-then-not-allows : goal.returns-then-not-allows
returns-then-not-allows c = (
  λ h. cc,
  λ g. absurd (not_along (SenderText (what_is_sent c.args.sends.now)) c.args.wire.now c.loop-item.item-index (Sent false) c.args.kind (rest_of c.loop-item.place) c.loop-item-test.true c.loop-item.invariant (λ b. let allowed = c.allows.ensures.1 ((c.offered.ensures.items _).0 b) in let not = c.if-not-allows.true in cc) g),
)

pub returns : goal.returns
returns c =
    let P = SenderText (what_is_sent c.args.sends.now) in
    subst (λ (b : Bool). (b ≡ true) ↔ GoesOnWith P c.args.wire.now c.args.kind) (sym c.is_offered.ensures)
    (at_end P c.args.wire.now c.loop-item.item-index c.args.kind (rest_of c.loop-item.place) c.offered-2.result c.loop-item-test.false c.loop-item.invariant c.offered-2.ensures.items)
