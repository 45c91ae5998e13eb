-- How a plan's text writes bits.

use Rattle.std.specs.Prelude.{ℕ, List, map}
use Rattle.message_tree.specs.Codes.{code}
use Rattle.message_tree.specs.declared.bits.Bit.{Bit}
use Rattle.message_tree.specs.declared.bits.Bit.TheVariants.{Zero, One, Either}
use Rattle.message_tree.specs.declared.bits.Address.{Address}
use Rattle.message_tree.specs.declared.bits.Pattern.{Pattern}
use Rattle.message_tree.specs.Patterns.{address_bits, pattern_bits}
use Rattle.plan_core.specs.Participants.{interrupt_bits}

-- a bit as it is written: '0', '1' or 'x'
abbrev pub bit_symbol : Bit → ℕ
bit_symbol Zero = code "0"
bit_symbol One = code "1"
bit_symbol Either = code "x"

-- the word of an address
abbrev pub address_word : Address → List ℕ
address_word a = map bit_symbol (address_bits a)

-- the word of an interrupt's address: its seven bits
abbrev pub interrupt_word : ℕ → List ℕ
interrupt_word address = map bit_symbol (interrupt_bits address)

-- the word of a data byte
abbrev pub pattern_word : Pattern → List ℕ
pattern_word p = map bit_symbol (pattern_bits p)
