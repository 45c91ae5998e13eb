use Rattle.std.proofs.Common.{◌≡◌, length}
use Rattle.plan_core.specs.PlanContents.{plan_contents}
use Rattle.arbitration.specs.Frames.{AreFrames, trees_of}
use Rattle.arbitration.specs.Plans.{AllSend}
use Rattle.arbitration.proofs.pairs.laid_out.Given as goal

abbrev pub invariant-loop-p : goal.invariant-loop-p
invariant-loop-p l =
    record {
      all : length l.sent.items ≡ l.p;
      sent : AllSend (plan_contents l.plan) (trees_of l.frames.entries.items) l.sent.items;
      frames : AreFrames l.frames.entries.items;
    }
