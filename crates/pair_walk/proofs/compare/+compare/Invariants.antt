use Rattle.std.proofs.Common.{◌+◌, ◌*◌}
use Rattle.message_tree.specs.Drops.{frame_weight, payload_weight, tail_weight}
use Rattle.message_tree.specs.Trees.{frame_tree, payload_tree, tail_tree}
use Rattle.pair_walk.proofs.compare.+compare.Given as goal

abbrev pub decreases-compare_frames : goal.decreases-compare_frames
decreases-compare_frames g l = 5 * frame_weight (frame_tree l.f.now)

abbrev pub decreases-two_writes : goal.decreases-two_writes
decreases-two_writes g l = 5 * (payload_weight (payload_tree l.x.now) + tail_weight (tail_tree l.r.now)) + 4

abbrev pub decreases-two_reads : goal.decreases-two_reads
decreases-two_reads g l = 5 * (tail_weight (tail_tree l.x.now) + tail_weight (tail_tree l.r.now)) + 4

abbrev pub decreases-compare_counts : goal.decreases-compare_counts
decreases-compare_counts g l = 5 * tail_weight (tail_tree l.x.now) + 3

abbrev pub decreases-compare_payloads : goal.decreases-compare_payloads
decreases-compare_payloads g l = 5 * payload_weight (payload_tree l.x.now) + 2

abbrev pub decreases-two_bytes : goal.decreases-two_bytes
decreases-two_bytes g l = 5 * (payload_weight (payload_tree l.x.now) + tail_weight (tail_tree l.r.now)) + 4

abbrev pub decreases-compare_tails : goal.decreases-compare_tails
decreases-compare_tails g l = 5 * tail_weight (tail_tree l.r.now) + 1
