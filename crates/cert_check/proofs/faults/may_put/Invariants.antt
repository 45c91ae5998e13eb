use Rattle.message_tree.specs.Texts.{SenderText}
use Rattle.plan_core.specs.Senders.{what_is_sent}
use Rattle.places.specs.Places.{rest_of}
use Rattle.cert_check.proofs.WireLemmas.{IsLeft}
use Rattle.cert_check.proofs.faults.may_put.Given as goal

-- the place is that after the items so far
abbrev pub invariant-loop-item : goal.invariant-loop-item
invariant-loop-item l = IsLeft (SenderText (what_is_sent l.sends)) l.wire l.item-index (rest_of l.place)
