-- What a pattern and an address stand for: their bits, in the order in which they are sent (UM10204, 3.1.5 and 3.1.10).
use Rattle.std.specs.Prelude.{List}
use Rattle.message_tree.specs.declared.bits.Bit.{Bit}
use Rattle.message_tree.specs.declared.bits.Pattern.{Pattern}
use Rattle.message_tree.specs.declared.bits.Address.{Address}
use Rattle.message_tree.specs.Bits.{bits_below}

-- the eight bits of a pattern
unfoldable pub pattern_bits : Pattern → List Bit
pattern_bits p = bits_below 8 p.known p.value

-- the seven bits of an address
unfoldable pub address_bits : Address → List Bit
address_bits a = bits_below 7 a.known a.value
