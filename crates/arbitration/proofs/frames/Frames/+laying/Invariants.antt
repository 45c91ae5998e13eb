use Rattle.std.proofs.Common.{◌+◌, ◌*◌}
use Rattle.message_tree.specs.Drops.{frame_weight, payload_weight, tail_weight}
use Rattle.message_tree.specs.Trees.{frame_tree, payload_tree, tail_tree}
use Rattle.arbitration.proofs.frames.Frames.+laying.Given as goal

abbrev pub decreases-lay : goal.decreases-lay
decreases-lay l = 4 * frame_weight (frame_tree l.frame.now) + 1

abbrev pub decreases-numbered : goal.decreases-numbered
decreases-numbered l = 4 * frame_weight (frame_tree l.frame.now)

abbrev pub decreases-lay_payload : goal.decreases-lay_payload
decreases-lay_payload l = 4 * payload_weight (payload_tree l.payload.now) + 3

abbrev pub decreases-lay_tail : goal.decreases-lay_tail
decreases-lay_tail l = 4 * tail_weight (tail_tree l.tail.now) + 2
