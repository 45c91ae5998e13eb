use Rattle.std.proofs.Common.{arith}
use Rattle.vcd_read.proofs.scanner.Scanner.end.Goals as goal

pub push_reserved-requires : goal.push_reserved-requires
push_reserved-requires g c = omega (arith, c.in_ok-end_token.ensures.samples_room 1 c.requires.samples_room)
