use Rattle.std.proofs.Common.{subst, List}
use Rattle.message_tree.specs.Trees.{frame_tree}
use Rattle.plan_core.specs.PlanContents.{plan_contents}
use Rattle.pair_walk.specs.declared.shared.Node.{Node}
use Rattle.pair_walk.specs.Marks.{HaveMarks}
use Rattle.pair_walk.proofs.SharedLemmas.{no_roots, root_added}
use Rattle.pair_walk.proofs.shared.shared_nodes.Goals as goal

pub loop-k-init : goal.loop-k-init
loop-k-init c =
    no_roots (plan_contents c.args.plan.now) c.new-gathering.result.nodes.items c.new-roots.result.items c.new-roots.ensures.items

pub loop-k-preserved : goal.loop-k-preserved
loop-k-preserved c =
    root_added (plan_contents c.args.plan.now) c.loop-k.gathering.nodes.items c.frame.new.self.nodes.items c.loop-k.roots.items c.push.new.self.items c.loop-k.k c.in_ok-root.root (frame_tree c.message.result.now) c.loop-k.invariant c.in_ok-root.ensures.keeps c.message.ensures c.in_ok-root.ensures.shows c.in_ok-push.ensures.items

pub returns : goal.returns
returns c = record { shown = c.loop-k.invariant.shown; marked = subst (λ (ns : List Node). HaveMarks ns c.in_ok-marks.marks.marks.items) c.deref.ensures.value c.in_ok-marks.ensures }
