use Rattle.std.proofs.Common.{◌+◌, ◌*◌}
use Rattle.cert_check.proofs.quick.+after.Given as goal

abbrev pub decreases-after_frames : goal.decreases-after_frames
decreases-after_frames l = 4 * l.room

abbrev pub decreases-after_tails : goal.decreases-after_tails
decreases-after_tails l = 4 * l.room + 1

abbrev pub decreases-after_refused : goal.decreases-after_refused
decreases-after_refused l = 4 * l.room + 2

abbrev pub decreases-after_reads : goal.decreases-after_reads
decreases-after_reads l = 4 * l.room + 2

abbrev pub decreases-after_payloads : goal.decreases-after_payloads
decreases-after_payloads l = 4 * l.room + 2

abbrev pub decreases-after_bytes : goal.decreases-after_bytes
decreases-after_bytes l = 4 * l.room + 3
