use Rattle.std.proofs.Common.{◌≡◌, ◌<◌, ◌^◌, drop}
use Rattle.message_tree.specs.Patterns.{pattern_bits}
use Rattle.brief_text.specs.Words.{known_number}
use Rattle.brief_text.proofs.words.known_byte.Given as goal

-- the bits from this one on make up the number with those before
abbrev pub invariant-loop-place : goal.invariant-loop-place
invariant-loop-place l = record {
  rest : known_number l.number (drop l.place (pattern_bits l.bits)) ≡ known_number 0 (pattern_bits l.bits);
  small : l.number < 2 ^ l.place;
}
