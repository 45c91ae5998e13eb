-- What words stand for: addresses, data bytes and counts.
use Rattle.std.specs.Prelude.{◌≡◌, ℕ, ◌+◌, ◌*◌, ◌%◌, ◌^◌, ◌<◌, ◌≤◌, Bool, true, false, ◌==◌, ◌&&◌, nat_le, bit_and, List, []}
use Rattle.std.specs.Prelude.{◌∷◌, Option, Some, None, if◌then◌else◌}
use Rattle.std.proofs.Common.{arith, ◌∙◌, refl}
use Rattle.std.proofs.lemmas.Bool.Decides.{nat_tests}
use Rattle.std.proofs.lemmas.Nat.Bits.{bit_at_and, same_from_bits}
use Rattle.message_tree.specs.Codes.{code}
use Rattle.message_tree.specs.declared.bits.Address.{Address}
use Rattle.message_tree.specs.declared.bits.Pattern.{Pattern}
use Rattle.message_tree.specs.declared.counts.Count.{Count}
use Rattle.plan_text.specs.Words.{is_pattern, is_known_address, in_range, number}

-- a number in base 2 that goes on with these digits
abbrev pub binary : (ℕ → ℕ) → ℕ → List ℕ → ℕ
binary digit n [] = n
binary digit n (byte ∷ bytes) = binary digit (n * 2 + digit byte) bytes

-- whether a bit is known, and its value where it is
abbrev pub known_digit : ℕ → ℕ
known_digit byte = if byte == code "x" then 0 else 1

abbrev pub value_digit : ℕ → ℕ
value_digit byte = if byte == code "1" then 1 else 0

pub seven_bits : (n : ℕ) → n % 2 ^ 7 < 2 ^ 7
seven_bits n = omega arith

pub eight_bits : (n : ℕ) → n % 2 ^ 8 < 2 ^ 8
eight_bits n = omega arith

pub masked_twice : (value known : ℕ) → bit_and (bit_and value known) known ≡ bit_and value known
masked_twice value known =
    same_from_bits _ _ (λ i. bit_at_and (bit_and value known) known i ∙ omega (arith, bit_at_and value known i))

-- the address and the data byte with these bits, as `Address::new` and `Pattern::new` make them
abbrev pub address_by : ℕ → ℕ → Address
address_by known value = record {
  known = known % 2 ^ 7;
  value = bit_and value (known % 2 ^ 7);
  known_is_address = seven_bits known;
  open_bits_are_zero = masked_twice value (known % 2 ^ 7);
}

abbrev pub pattern_by : ℕ → ℕ → Pattern
pattern_by known value = record {
  known = known % 2 ^ 8;
  value = bit_and value (known % 2 ^ 8);
  known_is_byte = eight_bits known;
  open_bits_are_zero = masked_twice value (known % 2 ^ 8);
}

unfoldable pub address_of : List ℕ → Option Address
address_of bytes =
    if is_pattern 7 bytes then Some (address_by (binary known_digit 0 bytes) (binary value_digit 0 bytes)) else None

unfoldable pub pattern_of : List ℕ → Option Pattern
pattern_of bytes =
    if is_pattern 8 bytes then Some (pattern_by (binary known_digit 0 bytes) (binary value_digit 0 bytes)) else None

-- the address of an interrupt
unfoldable pub known_address_of : List ℕ → Option ℕ
known_address_of bytes = if is_known_address bytes then Some (binary value_digit 0 bytes) else None

pub range_parts : (m n : ℕ) → (nat_le 1 m && nat_le m n && nat_le n 255) ≡ true → (0 < m) × (m ≤ n) × (n < 2 ^ 8)
range_parts m n h = (grind (arith, nat_tests), grind (arith, nat_tests), grind (arith, nat_tests))

abbrev pub count_by : (m n : ℕ) → (0 < m) × (m ≤ n) × (n < 2 ^ 8) → Count
count_by m n range = record { least = m; greatest = n; positive = range.0; ordered = range.1; is_byte = range.2 }

-- a value where the test passes, which may need that it does
abbrev pub where_true : {A : Type 0} (test : Bool) → (test ≡ true → A) → Option A
where_true true value = Some (value refl)
where_true false value = None

-- the count with these ends
unfoldable pub count_of : List ℕ × List ℕ → Option Count
count_of ends =
    where_true (in_range ends) (λ h.
    count_by (number ends.0) (number ends.1) (range_parts (number ends.0) (number ends.1) h))
