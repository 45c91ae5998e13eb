use Rattle.std.proofs.Common.{None}
use Rattle.plan_core.proofs.ListLemmas.{one_more}
use Rattle.cert_check.proofs.memos.no_lines.Goals as goal

pub loop-preserved : goal.loop-preserved
loop-preserved c =
    one_more c.loop.counter None c.loop.lines.items c.push.new.self.items c.loop.invariant c.in_ok-push.ensures.items
