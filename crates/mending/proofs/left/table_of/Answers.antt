use Rattle.std.proofs.Common.{get_or, refl}
use Rattle.mending.proofs.TableLemmas.{table_more}
use Rattle.mending.proofs.left.table_of.Goals as goal

pub loop-k-preserved : goal.loop-k-preserved
loop-k-preserved c =
    let pairs = c.args.pairs.now in
    let k = c.loop-k.k in
    let two = get_or pairs k (0, 0) in
    let below = c.requires.pairs k (0, 0) c.loop-k-test.true in
    table_more c.args.n pairs k two.0 two.1 c.loop-k.table.items c.mark.new.table.items c.loop-k.invariant c.loop-k-test.true refl below.0 below.1 c.mark.ensures
