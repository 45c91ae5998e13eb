use Rattle.std.proofs.lemmas.Option.{slice_get-get_or}
use Rattle.indexmap.specs.IndexSet.{keys}
use Rattle.causes.proofs.StepLemmas.{numbers_none, numbers_more}
use Rattle.causes.proofs.grouping.numbers.Goals as goal

pub number_in-g-requires : goal.number_in-g-requires
number_in-g-requires c =
    c.requires c.loop-k.k _ (slice_get-get_or c.args.causes.now c.loop-k.k _ c.loop-k-test.true)

pub loop-k-init : goal.loop-k-init
loop-k-init c = rw c.in_ok-numbers.ensures.items (numbers_none (keys c.args.known.now) c.args.causes.now)

pub loop-k-preserved : goal.loop-k-preserved
loop-k-preserved c =
    rw c.in_ok-push.ensures.items (numbers_more (keys c.args.known.now) c.args.causes.now c.loop-k.k c.loop-k.numbers.items c.loop-k.invariant c.number_in-g.result _ (slice_get-get_or c.args.causes.now c.loop-k.k _ c.loop-k-test.true) c.number_in-g.ensures)
