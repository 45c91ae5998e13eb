use Rattle.std.proofs.Common.{◌≡◌, ◌<◌, ◌^◌, drop}
use Rattle.message_tree.specs.Patterns.{address_bits}
use Rattle.brief_text.specs.Words.{known_number}
use Rattle.brief_text.proofs.words.known_address.Given as goal

-- the bits from this one on make up the number with those before
abbrev pub invariant-loop-place : goal.invariant-loop-place
invariant-loop-place l = record {
  rest : known_number l.number (drop l.place (address_bits l.address)) ≡ known_number 0 (address_bits l.address);
  small : l.number < 2 ^ l.place;
}
