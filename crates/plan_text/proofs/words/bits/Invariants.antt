use Rattle.std.proofs.Common.{◌≡◌, ◌<◌, ◌^◌, map, take}
use Rattle.message_tree.specs.Bits.{bits_below}
use Rattle.plan_text.specs.Symbols.{bit_symbol}
use Rattle.plan_text.proofs.words.bits.Given as goal

-- the characters before this one are read
abbrev pub invariant-loop-byte : goal.invariant-loop-byte
invariant-loop-byte l = record {
  known : l.bits.known < 2 ^ l.byte-index;
  value : l.bits.value < 2 ^ l.byte-index;
  bits : map bit_symbol (bits_below l.byte-index l.bits.known l.bits.value) ≡ take l.byte-index l.word;
}
