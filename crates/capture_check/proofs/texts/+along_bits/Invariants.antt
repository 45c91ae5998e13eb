use Rattle.std.proofs.Common.{length}
use Rattle.capture_check.proofs.texts.+along_bits.Given as goal

abbrev pub decreases-along_bits : goal.decreases-along_bits
decreases-along_bits l = length l.bits.now
