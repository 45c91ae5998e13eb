use Rattle.std.proofs.Common.{length, ◌≤◌}
use Rattle.cert_check.proofs.checkers.whole_lines.Given as goal

abbrev pub invariant-loop-size : goal.invariant-loop-size
invariant-loop-size l = l.size ≤ length l.bytes

abbrev pub decreases-loop-size : goal.decreases-loop-size
decreases-loop-size l = l.size
