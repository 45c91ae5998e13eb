use Rattle.std.proofs.Common.{◌+◌, ◌*◌}
use Rattle.plan_text.proofs.sources.Source.+message.Given as goal

-- each rule is below those that call it on the same path, and below each byte of a path is less room
abbrev pub decreases-frame : goal.decreases-frame
decreases-frame l = 6 * l.room + 1

abbrev pub decreases-write : goal.decreases-write
decreases-write l = 6 * l.room

abbrev pub decreases-read : goal.decreases-read
decreases-read l = 6 * l.room

abbrev pub decreases-payload : goal.decreases-payload
decreases-payload l = 6 * l.room + 4

abbrev pub decreases-payload_by_token : goal.decreases-payload_by_token
decreases-payload_by_token l = 6 * l.room + 3

abbrev pub decreases-byte : goal.decreases-byte
decreases-byte l = 6 * l.room

abbrev pub decreases-tail : goal.decreases-tail
decreases-tail l = 6 * l.room + 3

abbrev pub decreases-tail_from : goal.decreases-tail_from
decreases-tail_from l = 6 * l.room + 2

abbrev pub decreases-refusal : goal.decreases-refusal
decreases-refusal l = 6 * l.room + 4
