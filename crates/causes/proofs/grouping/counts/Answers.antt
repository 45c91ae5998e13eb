use Rattle.std.proofs.Common.{get_or, refl}
use Rattle.std.proofs.lemmas.Option.{slice_get-get_or}
use Rattle.causes.proofs.StepLemmas.{counts_none, count_bound, counts_more}
use Rattle.causes.proofs.grouping.counts.Goals as goal

pub loop-i-init : goal.loop-i-init
loop-i-init c = rw c.in_ok-counts.ensures (counts_none c.args.n c.args.numbers.now)

pub count_one-requires-clause-fewer : goal.count_one-requires-clause-fewer
count_one-requires-clause-fewer c =
    let numbers = c.args.numbers.now in
    let i = c.loop-i.i in
    count_bound c.args.n numbers i c.loop-i.counts.items c.loop-i.invariant (get_or numbers i 0) c.loop-i-test.true refl (c.requires i (get_or numbers i 0) (slice_get-get_or numbers i 0 c.loop-i-test.true))

pub loop-i-preserved : goal.loop-i-preserved
loop-i-preserved c =
    let numbers = c.args.numbers.now in
    let i = c.loop-i.i in
    rw c.count_one.ensures (counts_more c.args.n numbers i c.loop-i.counts.items c.loop-i.invariant (get_or numbers i 0) c.loop-i-test.true refl (c.requires i (get_or numbers i 0) (slice_get-get_or numbers i 0 c.loop-i-test.true)))
