-- What the words of addresses and data bytes spell out.
use Rattle.std.proofs.Common.{◌≡◌, ◌≢◌, ◌⊎◌, inl, inr, ℕ, zero, suc, ◌+◌, ◌*◌, ◌/◌, ◌<◌, ◌≤◌, ◌==◌, ◌&&◌, Bool, true, false, List, [], ◌∷◌, ◌++◌, map, length, get_or, drop, Option, Some, None, is_some, IfSome, codes, slice_get, refl, ap, sym, ◌∙◌, arith}
use Rattle.std.specs.Prelude.{unwrap_or, if◌then◌else◌}
use Rattle.std.specs.Int.{bit_at}
use Rattle.std.proofs.lemmas.Bool.{and_parts, eqb-true}
use Rattle.std.proofs.lemmas.List.{drop_more}
use Rattle.std.proofs.lemmas.Nat.Bits.{bit_at_lowest, bit_at-suc}
use Rattle.std.proofs.lemmas.Option.{slice_get_within, get_or_from_slice_get}
use Rattle.message_tree.specs.Bits.{bit_from, bits_below}
use Rattle.message_tree.specs.Patterns.{address_bits, pattern_bits}
use Rattle.message_tree.specs.declared.bits.Address.{Address}
use Rattle.message_tree.specs.declared.bits.Bit.{Bit}
use Rattle.message_tree.specs.declared.bits.Pattern.{Pattern}
use Rattle.plan_text.specs.Symbols.{bit_symbol, address_word, pattern_word}
use Rattle.plan_text.specs.Values.{address_of, pattern_of}
use Rattle.plan_text.specs.Words.{is_pattern}
use Rattle.plan_text.proofs.ValueLemmas.{address_found, address_none, pattern_found, pattern_none}
use Rattle.brief_text.specs.Codes.{byte_of}
use Rattle.brief_text.specs.Words.{digit_bits, both, hex_bits, eight_bits, seven_bits, is_base_2, is_base_16, data_by, address_by, any_byte}

-- ---- two digits

-- the bits of a byte of two digits
high_bit : (a b i : ℕ) → b < 16 → bit_at (a * 16 + b) (suc (suc (suc (suc i)))) ≡ bit_at a i
high_bit a b i small =
    let n = a * 16 + b in
    let four : n / 2 / 2 / 2 / 2 ≡ a = omega arith in
    bit_at-suc n (suc (suc (suc i))) ∙ bit_at-suc (n / 2) (suc (suc i)) ∙ bit_at-suc (n / 2 / 2) (suc i) ∙ bit_at-suc (n / 2 / 2 / 2) i ∙ ap (λ m. bit_at m i) four

low_0 : (a b : ℕ) → bit_at (a * 16 + b) 0 ≡ bit_at b 0
low_0 a b = bit_at_lowest (a * 16 + b) ∙ omega arith ∙ sym (bit_at_lowest b)

low_1 : (a b : ℕ) → bit_at (a * 16 + b) 1 ≡ bit_at b 1
low_1 a b = omega arith

low_2 : (a b : ℕ) → bit_at (a * 16 + b) 2 ≡ bit_at b 2
low_2 a b = omega arith

low_3 : (a b : ℕ) → bit_at (a * 16 + b) 3 ≡ bit_at b 3
low_3 a b = omega arith

pub nibbles : (k l v w : ℕ) → l < 16 → w < 16 → bits_below 8 (k * 16 + l) (v * 16 + w) ≡ bits_below 4 k v ++ bits_below 4 l w
nibbles k l v w p q =
    rw (
      high_bit k l 3 p,
      high_bit k l 2 p,
      high_bit k l 1 p,
      high_bit k l 0 p,
      high_bit v w 3 q,
      high_bit v w 2 q,
      high_bit v w 1 q,
      high_bit v w 0 q,
      low_3 k l,
      low_2 k l,
      low_1 k l,
      low_0 k l,
      low_3 v w,
      low_2 v w,
      low_1 v w,
      low_0 v w,
    ) refl

pub hex_two : (digits : List ℕ) → 2 ≤ length digits → length digits < 3 → hex_bits digits ≡ both (digit_bits (get_or digits 0 0)) (digit_bits (get_or digits 1 0))
hex_two [] a b = absurd (omega arith)
hex_two (h ∷ []) a b = absurd (omega arith)
hex_two (h ∷ l ∷ []) a b = refl
hex_two (h ∷ l ∷ d ∷ digits) a b = absurd (omega arith)

pub both_known : (high low k l v w : ℕ) → digit_bits high ≡ Some (map bit_symbol (bits_below 4 k v)) → digit_bits low ≡ Some (map bit_symbol (bits_below 4 l w)) → l < 16 → w < 16
    → both (digit_bits high) (digit_bits low) ≡ Some (map bit_symbol (bits_below 8 (k * 16 + l) (v * 16 + w)))
both_known high low k l v w e f p q = rw (e, f) (ap (λ bits. Some (map bit_symbol bits)) (sym (nibbles k l v w p q)))

-- ---- the bits of a word

abbrev NoFront : List ℕ → List ℕ → Type 0
NoFront front word = (rest : List ℕ) → front ++ rest ≢ word

same_two : (a b first second : ℕ) (rest : List ℕ) → (first == a && second == b) ≡ true → a ∷ b ∷ rest ≡ first ∷ second ∷ rest
same_two a b first second rest h =
    let parts = and_parts (first == a) (second == b) h in
    let one = eqb-true first a parts.0 in
    let two = eqb-true second b parts.1 in
    cc

module _ {A : Type 0} (word : List ℕ) (no_2 : NoFront (codes "0b") word) (no_16 : NoFront (codes "0x") word) where
  by_tests : (first second : ℕ) (rest : List ℕ) → first ∷ second ∷ rest ≡ word → (s t : Bool) → is_base_2 first second ≡ s → is_base_16 first second ≡ t → (x y : Option A) → (if s then x else if t then y else None) ≡ None
  by_tests first second rest is true t p q x y = absurd (no_2 rest (same_two 48 98 first second rest p ∙ is))
  by_tests first second rest is false true p q x y = absurd (no_16 rest (same_two 48 120 first second rest q ∙ is))
  by_tests first second rest is false false p q x y = refl

pub data_none : (word : List ℕ) → NoFront (codes "0b") word → NoFront (codes "0x") word → data_by word ≡ None
unfolding data_by
data_none [] a b = refl
data_none (first ∷ []) a b = refl
data_none (first ∷ second ∷ rest) a b = by_tests (first ∷ second ∷ rest) a b first second rest refl (is_base_2 first second) (is_base_16 first second) refl refl (pattern_of rest) (eight_bits (hex_bits rest))

pub address_missing : (word : List ℕ) → NoFront (codes "0b") word → NoFront (codes "0x") word → address_by word ≡ None
unfolding address_by
address_missing [] a b = refl
address_missing (first ∷ []) a b = refl
address_missing (first ∷ second ∷ rest) a b = by_tests (first ∷ second ∷ rest) a b first second rest refl (is_base_2 first second) (is_base_16 first second) refl refl (address_of rest) (seven_bits (hex_bits rest))

pub data_base_2 : (word bits : List ℕ) → codes "0b" ++ bits ≡ word → data_by word ≡ pattern_of bits
unfolding data_by
data_base_2 word bits e = sym (ap data_by e)

pub data_base_16 : (word digits : List ℕ) → codes "0x" ++ digits ≡ word → data_by word ≡ eight_bits (hex_bits digits)
unfolding data_by
data_base_16 word digits e = sym (ap data_by e)

pub address_base_2 : (word bits : List ℕ) → codes "0b" ++ bits ≡ word → address_by word ≡ address_of bits
unfolding address_by
address_base_2 word bits e = sym (ap address_by e)

pub address_base_16 : (word digits : List ℕ) → codes "0x" ++ digits ≡ word → address_by word ≡ seven_bits (hex_bits digits)
unfolding address_by
address_base_16 word digits e = sym (ap address_by e)

pub pattern_result : (r : Option Pattern) (bits : List ℕ) → is_some r ≡ is_pattern 8 bits → IfSome r (λ p. pattern_word p ≡ bits) → r ≡ pattern_of bits
pattern_result (Some p) bits form is = sym (pattern_found bits p is)
pattern_result None bits form is = sym (pattern_none bits (sym form))

pub address_result : (r : Option Address) (bits : List ℕ) → is_some r ≡ is_pattern 7 bits → IfSome r (λ a. address_word a ≡ bits) → r ≡ address_of bits
address_result (Some a) bits form is = sym (address_found bits a is)
address_result None bits form is = sym (address_none bits (sym form))

pub eight_known : (o : Option (List ℕ)) (k v : ℕ) (p : Pattern) → o ≡ Some (map bit_symbol (bits_below 8 k v)) → pattern_bits p ≡ bits_below 8 k v → eight_bits o ≡ Some p
eight_known o k v p e is = ap eight_bits e ∙ pattern_found (map bit_symbol (bits_below 8 k v)) p (ap (map bit_symbol) is)

-- the first of eight bits is a 1
one_on_top : (k v : ℕ) → 128 ≤ k → k < 256 → 128 ≤ v → v < 256 → (bit_symbol (bit_from (bit_at k 7) (bit_at v 7)) == 49) ≡ true
one_on_top k v a b c d =
    let known : bit_at k 7 ≡ 1 = omega arith in
    let value : bit_at v 7 ≡ 1 = omega arith in
    rw (known, value) refl

no_one : (a : ℕ) → (bit_symbol (bit_from a 0) == 49) ≡ false
no_one zero = refl
no_one (suc a) = refl

none_on_top : (k v : ℕ) → (k < 128) ⊎ (v < 128) → (bit_symbol (bit_from (bit_at k 7) (bit_at v 7)) == 49) ≡ false
none_on_top k v (inl a) = let known : bit_at k 7 ≡ 0 = omega arith in rw known refl
none_on_top k v (inr a) = let value : bit_at v 7 ≡ 0 = omega arith in rw value (no_one (bit_at k 7))

pub seven_one : (o : Option (List ℕ)) (k v : ℕ) → o ≡ Some (map bit_symbol (bits_below 8 k v)) → 128 ≤ k → k < 256 → 128 ≤ v → v < 256 → seven_bits o ≡ None
seven_one o k v e a b c d = ap seven_bits e ∙ rw (one_on_top k v a b c d) refl

pub seven_known : (o : Option (List ℕ)) (k v : ℕ) (a : Address) → o ≡ Some (map bit_symbol (bits_below 8 k v)) → (k < 128) ⊎ (v < 128) → address_bits a ≡ bits_below 7 k v → seven_bits o ≡ Some a
seven_known o k v a e low is = ap seven_bits e ∙ rw (none_on_top k v low) (address_found (map bit_symbol (bits_below 7 k v)) a (ap (map bit_symbol) is))

-- `any`
pub any_is : (p : Pattern) → pattern_bits p ≡ bits_below 8 0 0 → any_byte ≡ p
unfolding pattern_of
any_is p is =
    let found : pattern_of (codes "xxxxxxxx") ≡ Some p = pattern_found (codes "xxxxxxxx") p (ap (map bit_symbol) is) in
    let same : Some any_byte ≡ Some p = found in
    cc

-- ---- bits one by one

pub rest_at : (bits : List Bit) (k : ℕ) (b : Bit) → slice_get bits k ≡ Some b → drop k bits ≡ b ∷ drop (k + 1) bits
rest_at bits k b at = drop_more bits k b (slice_get_within bits k b at) ∙ ap (λ y. y ∷ drop (k + 1) bits) (get_or_from_slice_get bits k b b at)

pub none_after : (a : Address) (k : ℕ) → k ≡ 7 → drop k (address_bits a) ≡ []
unfolding address_bits
none_after a k e = ap (λ n. drop n (address_bits a)) e

pub no_bits_after : (p : Pattern) (k : ℕ) → k ≡ 8 → drop k (pattern_bits p) ≡ []
unfolding pattern_bits
no_bits_after p k e = ap (λ n. drop n (pattern_bits p)) e

-- the byte of these bits
pub byte_is : (p : Pattern) (bits : List Bit) → pattern_bits p ≡ bits → p ≡ byte_of bits
byte_is p bits is = sym (ap (λ o. unwrap_or o any_byte) (pattern_found (map bit_symbol bits) p (ap (map bit_symbol) is)))

pub pattern_of_word : (p : Pattern) (word : List ℕ) → pattern_word p ≡ word → p ≡ unwrap_or (pattern_of word) any_byte
pattern_of_word p word is = sym (ap (λ o. unwrap_or o any_byte) (pattern_found word p is))
