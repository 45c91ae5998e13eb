use Rattle.std.proofs.Common.{None}
use Rattle.plan_core.proofs.ListLemmas.{one_more}
use Rattle.verdicts.proofs.samples.no_samples.Goals as goal

pub loop-preserved : goal.loop-preserved
loop-preserved c =
    one_more c.loop.counter None c.loop.samples.items c.push.new.self.items c.loop.invariant c.in_ok-push.ensures.items
