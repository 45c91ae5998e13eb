use Rattle.std.proofs.Common.{◌≡◌, ◌++◌, map, take, string_bytes}
use Rattle.plan_text.specs.Symbols.{bit_symbol}
use Rattle.spellings.proofs.items.in_bits.Given as goal

-- the bits before this one are written
abbrev pub invariant-loop-bit : goal.invariant-loop-bit
invariant-loop-bit l = string_bytes l.text ≡ string_bytes l.initial.text ++ map bit_symbol (take l.bit-index l.bits)
