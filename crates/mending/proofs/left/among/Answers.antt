use Rattle.std.proofs.Common.{◌∙◌}
use Rattle.mending.proofs.TableLemmas.{found_more}
use Rattle.mending.proofs.left.among.Goals as goal

pub loop-k-preserved : goal.loop-k-preserved
loop-k-preserved c =
    c.in_ok-push.ensures.items ∙
    found_more c.args.n c.args.others.now c.args.pairs.now c.loop-k.k c.in_ok-table.table.items c.loop-k.found.items c.index.result.now c.in_ok-table.ensures c.requires.pairs c.loop-k-test.true c.index.ensures c.loop-k.invariant
