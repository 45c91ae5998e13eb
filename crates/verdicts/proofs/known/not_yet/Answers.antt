use Rattle.plan_core.proofs.ListLemmas.{one_more}
use Rattle.verdicts.specs.declared.known.Known.TheVariants.{NotYet}
use Rattle.verdicts.proofs.known.not_yet.Goals as goal

pub loop-preserved : goal.loop-preserved
loop-preserved c =
    one_more c.loop.counter NotYet c.loop.known.items c.push.new.self.items c.loop.invariant c.in_ok-push.ensures.items
