use Rattle.std.proofs.Common.{get_or}
use Rattle.std.proofs.lemmas.Option.{slice_get-get_or}
use Rattle.indexmap.specs.IndexSet.{keys}
use Rattle.causes.proofs.Firsts.{firsts_none, firsts_more}
use Rattle.causes.proofs.grouping.firsts.Goals as goal

pub loop-i-init : goal.loop-i-init
loop-i-init c =
    rw c.new-known.ensures.empty (rw c.new-places.ensures.items (firsts_none c.args.causes.now c.args.order.now))

pub cause_at-requires-clause-within : goal.cause_at-requires-clause-within
cause_at-requires-clause-within c =
    c.requires c.loop-i.i (get_or c.args.order.now c.loop-i.i (0, 0)) (slice_get-get_or c.args.order.now c.loop-i.i (0, 0) c.loop-i-test.true)

pub loop-i-preserved : goal.loop-i-preserved
loop-i-preserved c =
    rw c.in_ok-push_if.ensures (rw c.in_ok-is_new.ensures.keys (
    firsts_more c.args.causes.now c.args.order.now c.loop-i.i (keys c.loop-i.known) c.loop-i.places.items c.loop-i.invariant (get_or c.args.order.now c.loop-i.i (0, 0)) (slice_get-get_or c.args.order.now c.loop-i.i (0, 0) c.loop-i-test.true) c.cause_at.result c.cause_at.ensures c.in_ok-is_new.is_new c.in_ok-is_new.ensures.added))
