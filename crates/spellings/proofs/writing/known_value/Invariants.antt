use Rattle.std.proofs.Common.{◌≡◌, ◌<◌, ◌^◌, drop}
use Rattle.brief_text.specs.Words.{known_number}
use Rattle.spellings.proofs.writing.known_value.Given as goal

-- the bits from this one on make up the number with those before
abbrev pub invariant-loop-bit : goal.invariant-loop-bit
invariant-loop-bit l = record {
  rest : known_number l.value (drop l.bit-index l.bits) ≡ known_number 0 l.bits;
  small : l.value < 2 ^ l.bit-index;
}
