-- How much there is left to let go of: eight for each unit of weight, and a rank for each function, so that each call has
-- less before it.
use Rattle.std.proofs.Common.{ℕ, ◌+◌, ◌*◌, ◌≤◌}
use Rattle.message_tree.specs.Trees.{frame_tree, payload_tree, tail_tree}
use Rattle.message_tree.specs.Drops.{frame_weight, payload_weight, tail_weight}
use Rattle.message_tree.proofs.tree.+drops.Given as goal

abbrev pub invariant-Payload::drop-loop-frame : goal.invariant-Payload::drop-loop-frame
invariant-Payload::drop-loop-frame l = payload_weight (payload_tree l.self) ≤ payload_weight (payload_tree l.initial.self)

abbrev pub decreases-Payload::drop-loop-frame : goal.decreases-Payload::drop-loop-frame
decreases-Payload::drop-loop-frame l = payload_weight (payload_tree l.self)

abbrev pub invariant-Payload::unhook-loop-self : goal.invariant-Payload::unhook-loop-self
invariant-Payload::unhook-loop-self l = payload_weight (payload_tree l.self) ≤ payload_weight (payload_tree l.initial.self)

abbrev pub decreases-Payload::unhook-loop-self : goal.decreases-Payload::unhook-loop-self
decreases-Payload::unhook-loop-self l = payload_weight (payload_tree l.self)

abbrev pub invariant-Tail::drop-loop-self : goal.invariant-Tail::drop-loop-self
invariant-Tail::drop-loop-self l = tail_weight (tail_tree l.self) ≤ tail_weight (tail_tree l.initial.self)

abbrev pub decreases-Tail::drop-loop-self : goal.decreases-Tail::drop-loop-self
decreases-Tail::drop-loop-self l = tail_weight (tail_tree l.self)

abbrev pub decreases-Tail::drop : goal.decreases-Tail::drop
decreases-Tail::drop l = 8 * tail_weight (tail_tree l.self) + 7

abbrev pub decreases-less : goal.decreases-less
decreases-less l = 8 * frame_weight (frame_tree l.outer.value) + 6

abbrev pub decreases-outer_refused : goal.decreases-outer_refused
decreases-outer_refused l = 8 * frame_weight (frame_tree l.outer.value) + 5

abbrev pub decreases-Frame::unhook : goal.decreases-Frame::unhook
decreases-Frame::unhook l = 8 * frame_weight (frame_tree l.self.now) + 5

abbrev pub decreases-Payload::drop : goal.decreases-Payload::drop
decreases-Payload::drop l = 8 * payload_weight (payload_tree l.self) + 8

abbrev pub decreases-Payload::unhook : goal.decreases-Payload::unhook
decreases-Payload::unhook l = 8 * payload_weight (payload_tree l.self.now) + 4

abbrev pub decreases-Payload::rest : goal.decreases-Payload::rest
decreases-Payload::rest l = 8 * payload_weight (payload_tree l.self) + 2

abbrev pub decreases-Tail::unhook : goal.decreases-Tail::unhook
decreases-Tail::unhook l = 8 * tail_weight (tail_tree l.self.now) + 3
