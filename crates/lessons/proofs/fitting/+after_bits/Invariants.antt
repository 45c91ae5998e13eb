use Rattle.std.proofs.Common.{length}
use Rattle.lessons.proofs.fitting.+after_bits.Given as goal

-- the bits that are left
abbrev pub decreases-after_bits : goal.decreases-after_bits
decreases-after_bits l = length l.bits.now
