use Rattle.std.proofs.Common.{◌≡◌, ◌++◌, take, string_bytes}
use Rattle.byte_lines.specs.Bytes.{bits_text}
use Rattle.byte_lines.proofs.bytes.push_bits.Given as goal

abbrev pub invariant-loop-bit : goal.invariant-loop-bit
invariant-loop-bit l = string_bytes l.text ≡ string_bytes l.initial.text ++ bits_text (take l.bit-index l.bits)
