use Rattle.std.proofs.Common.{◌≡◌, ◌<◌, ◌^◌, take}
use Rattle.byte_lines.specs.Bytes.{number}
use Rattle.byte_lines.proofs.bytes.number.Given as goal

abbrev pub invariant-loop-bit : goal.invariant-loop-bit
invariant-loop-bit l = record {
  so_far : l.number ≡ number (take l.bit-index l.bits);
  small : l.number < 2 ^ l.bit-index;
}
