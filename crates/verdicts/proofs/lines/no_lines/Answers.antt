use Rattle.verdicts.proofs.ProofLines.{one_empty_more}
use Rattle.verdicts.proofs.lines.no_lines.Goals as goal

pub loop-preserved : goal.loop-preserved
loop-preserved c =
    one_empty_more c.loop.counter c.loop.lines.items c.push.new.self.items c.new.result c.loop.invariant c.in_ok-push.ensures.items c.new.ensures.items
