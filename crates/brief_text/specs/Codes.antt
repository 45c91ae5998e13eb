-- Bytes that follow from those before them on their path from START: the packet error code of SMBus (SMBus 3.2, 6.4), and
-- checksums that make a sum 0 modulo 256.
use Rattle.std.specs.Prelude.{ℕ, zero, suc, ◌+◌, ◌-◌, ◌*◌, ◌%◌, Bool, true, false, nat_lt, List, [], ◌∷◌, ◌++◌, map, Option, Some, None, unwrap_or, bit_xor}
use Rattle.std.specs.Prelude.{if◌then◌else◌}
use Rattle.std.specs.Option.{option_map}
use Rattle.message_tree.specs.Bits.{bits_below}
use Rattle.message_tree.specs.Patterns.{address_bits, pattern_bits}
use Rattle.message_tree.specs.declared.bits.Address.{Address}
use Rattle.message_tree.specs.declared.bits.Bit.{Bit}
use Rattle.message_tree.specs.declared.bits.Bit.TheVariants.{One, Zero}
use Rattle.message_tree.specs.declared.bits.Pattern.{Pattern}
use Rattle.plan_text.specs.Symbols.{bit_symbol}
use Rattle.plan_text.specs.Values.{pattern_of}
use Rattle.brief_text.specs.declared.codes.Path.{Path}
use Rattle.brief_text.specs.Words.{any_byte, known_number}

-- before the first byte, and where a byte was not known
abbrev pub at_start : Path
at_start = record { code = Some 0; sum = Some 0 }

abbrev pub unknown : Path
unknown = record { code = None; sum = None }

-- One bit further: the remainder of division by x^8 + x^2 + x + 1 over the integers modulo 2. Where a 1 leaves the eight bits,
-- the rest of the divisor is added.
abbrev pub shifted : ℕ → ℕ
shifted r = if nat_lt r 128 then r * 2 else bit_xor ((r - 128) * 2) 7

-- the packet error code of what had this code, and of one byte more
unfoldable pub code_after : ℕ → ℕ → ℕ
code_after before byte = shifted (shifted (shifted (shifted (shifted (shifted (shifted (shifted (bit_xor before byte))))))))

abbrev pub sum_after : ℕ → ℕ → ℕ
sum_after before byte = (before + byte) % 256

abbrev pub after_number : Path → Option ℕ → Path
after_number path (Some byte) = record { code = option_map (λ c. code_after c byte) path.code; sum = option_map (λ s. sum_after s byte) path.sum }
after_number path None = unknown

-- after a byte of these bits
abbrev pub after_bits : Path → Pattern → Path
after_bits path bits = after_number path (known_number 0 (pattern_bits bits))

-- after so many bytes of these bits
abbrev pub times_after : ℕ → Pattern → Path → Path
times_after zero bits path = path
times_after (suc n) bits path = after_bits (times_after n bits path) bits

-- the byte of these bits
abbrev pub byte_of : List Bit → Pattern
byte_of bits = unwrap_or (pattern_of (map bit_symbol bits)) any_byte

-- the first byte of a frame: the address, and the direction bit (UM10204, 3.1.10)
abbrev pub direction : Bool → Bit
direction true = One
direction false = Zero

abbrev pub header_word : Bool → Address → List Bit
header_word reads to = address_bits to ++ direction reads ∷ []

abbrev pub header_bits : Bool → Address → Pattern
header_bits reads to = byte_of (header_word reads to)

-- this byte, or any where it is not known
abbrev pub exactly : Option ℕ → Pattern
exactly (Some byte) = byte_of (bits_below 8 255 byte)
exactly None = any_byte

-- what makes the sum 0
abbrev pub remaining : ℕ → ℕ
remaining sum = (256 - sum) % 256
