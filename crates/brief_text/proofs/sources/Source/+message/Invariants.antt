use Rattle.std.proofs.Common.{◌+◌, ◌*◌}
use Rattle.brief_text.proofs.sources.Source.+message.Given as goal

-- each rule is below those that call it on the same path, and below each byte of a path is less room
abbrev pub decreases-frames : goal.decreases-frames
decreases-frames l = 4 * l.room.bytes + 1

abbrev pub decreases-write : goal.decreases-write
decreases-write l = 4 * l.room.bytes

abbrev pub decreases-read : goal.decreases-read
decreases-read l = 4 * l.room.bytes

abbrev pub decreases-payload : goal.decreases-payload
decreases-payload l = 4 * l.room.bytes + 3

abbrev pub decreases-bytes : goal.decreases-bytes
decreases-bytes l = 4 * l.room.bytes + 1

abbrev pub decreases-any : goal.decreases-any
decreases-any l = 4 * l.room.bytes + 1

abbrev pub decreases-byte : goal.decreases-byte
decreases-byte l = 4 * l.room.bytes

abbrev pub decreases-following : goal.decreases-following
decreases-following l = 4 * l.room.bytes + 2

abbrev pub decreases-refused : goal.decreases-refused
decreases-refused l = 4 * l.room.bytes + 2

abbrev pub decreases-mades : goal.decreases-mades
decreases-mades l = 4 * l.room.bytes + 1

abbrev pub decreases-made : goal.decreases-made
decreases-made l = 4 * l.room.bytes
