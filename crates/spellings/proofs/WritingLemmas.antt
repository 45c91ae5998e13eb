-- What the writer of briefs adds, bit by bit.
use Rattle.std.proofs.Common.{◌≡◌, ◌≢◌, ℕ, ◌+◌, ◌<◌, ◌≤◌, ◌^◌, Bool, true, false, ◌&&◌, List, [], ◌∷◌, ◌++◌, length, get_or, take, drop, Some, refl, ap, sym, ◌∙◌, subst, arith, append_assoc}
use Rattle.std.specs.List.{list_all}
use Rattle.std.specs.Prelude.{◌==◌, Result, Ok, Err, OnOk, codes, if◌then◌else◌}
use Rattle.std.proofs.lemmas.Bool.Decides.{nat_tests}
use Rattle.std.proofs.Math.Pow.{pow_mono}
use Rattle.std.proofs.lemmas.List.{drop_more}
use Rattle.message_tree.specs.declared.bits.Bit.{Bit}
use Rattle.message_tree.specs.declared.bits.Pattern.{Pattern}
use Rattle.message_tree.specs.declared.bits.Address.{Address}
use Rattle.message_tree.specs.Patterns.{address_bits, pattern_bits}
use Rattle.message_tree.specs.Bits.{bits_below}
use Rattle.message_tree.proofs.BitLemmas.{bits_below-masked}
use Rattle.spellings.specs.Canonical.{Adds, spaced, item_line}
use Rattle.plan_text.specs.Values.{address_by}
use Rattle.spellings.proofs.Adding.{adds_then}
use Rattle.spellings.specs.Spelling.{digit_symbol, data_of, data_word, target_of, target_word}

module _ {X : Type 0} (xs : List X) (k : ℕ) (d x : X) (within : k < length xs) (is : get_or xs k d ≡ x) where
  pub rest_is : drop k xs ≡ x ∷ drop (k + 1) xs
  rest_is = drop_more xs k d within ∙ ap (λ y. y ∷ drop (k + 1) xs) is

  -- one test more of all tests
  pub all_here : (test : X → Bool) (all : Bool) → list_all test (drop k xs) ≡ all → test x ≡ true → list_all test (drop (k + 1) xs) ≡ all
  all_here test all before here = sym (ap (λ b. b && list_all test (drop (k + 1) xs)) here) ∙ ap (list_all test) (sym rest_is) ∙ before

  pub none_here : (test : X → Bool) (all : Bool) → list_all test (drop k xs) ≡ all → test x ≡ false → false ≡ all
  none_here test all before here = sym (ap (λ b. b && list_all test (drop (k + 1) xs)) here) ∙ ap (list_all test) (sym rest_is) ∙ before

-- at most four digits in base 2
pub four_digits : (n k : ℕ) → n < 2 ^ k → k ≤ 4 → n < 16
four_digits n k small few = omega (arith, small, pow_mono few)

-- ---- addresses and data bytes

other_high : (high low : ℕ) → high ≢ 88 → (high == 88 && low == 88) ≡ false
other_high high low differ = grind (arith, nat_tests)

other_low : (high low : ℕ) → low ≢ 88 → (high == 88 && low == 88) ≡ false
other_low high low differ = grind (arith, nat_tests)

low_four : (p : Pattern) → take 4 (drop 4 (pattern_bits p)) ≡ drop 4 (pattern_bits p)
unfolding pattern_bits
low_four p = refl

module _ (p : Pattern) (bits : List Bit) (is : bits ≡ pattern_bits p) where
  low_are : take 4 (drop 4 bits) ≡ drop 4 (pattern_bits p)
  low_are = ap (λ l. take 4 (drop 4 l)) is ∙ low_four p

  module _ (high low : ℕ) (first : Some high ≡ digit_symbol (take 4 bits)) (second : Some low ≡ digit_symbol (take 4 (drop 4 bits))) where
    by_digits : data_word p ≡ data_of (Some high) (Some low) (pattern_bits p)
    by_digits = λ i. data_of (digits_first i) (digits_second i) (pattern_bits p)
      where
        digits_first : digit_symbol (take 4 (pattern_bits p)) ≡ Some high
        digits_first = ap (λ l. digit_symbol (take 4 l)) (sym is) ∙ sym first

        digits_second : digit_symbol (drop 4 (pattern_bits p)) ≡ Some low
        digits_second = ap digit_symbol (sym low_are) ∙ sym second

    pub hex_high : high ≢ 88 → codes "0x" ++ high ∷ low ∷ [] ≡ data_word p
    hex_high differ = sym (by_digits ∙ ap (λ (t : Bool). if t then codes "any" else (codes "0x" ++ high ∷ low ∷ [])) (other_high high low differ))

    pub hex_low : low ≢ 88 → codes "0x" ++ high ∷ low ∷ [] ≡ data_word p
    hex_low differ = sym (by_digits ∙ ap (λ (t : Bool). if t then codes "any" else (codes "0x" ++ high ∷ low ∷ [])) (other_low high low differ))

-- a word in the place of an equal one
pub same_word : {X E : Type 0} (r : Result X E) (a b v w : List ℕ) → v ≡ w → OnOk r (Adds a b (v ∷ [])) → OnOk r (Adds a b (w ∷ []))
same_word r a b v w e h = subst (λ x. OnOk r (Adds a b (x ∷ []))) e h

-- the address of an interrupt, as it is written
pub interrupt_target : (a : Address) (n : ℕ) → address_bits a ≡ bits_below 7 127 n → target_word a ≡ target_word (address_by 127 n)
unfolding address_bits
interrupt_target a n e = ap (λ bits. target_of (digit_symbol (take 3 bits)) (digit_symbol (drop 3 bits)) bits) (e ∙ sym (bits_below-masked 7 127 n))

-- an item of two words
pub line_made : {X E : Type 0} (r : Result X E) (t0 t1 t2 t3 t4 first name word : List ℕ) → t1 ≡ t0 ++ first → Adds t1 t2 (name ∷ []) → Adds t2 t3 (word ∷ []) → OnOk r (t4 ≡ t3 ++ codes " ;\n") → OnOk r (t4 ≡ t0 ++ item_line first (name ∷ (word ∷ [])))
line_made (Err e) t0 t1 t2 t3 t4 first name word e1 e2 e3 e4 = tt
line_made (Ok x) t0 t1 t2 t3 t4 first name word e1 e2 e3 e4 =
    let words : List ℕ = spaced (name ∷ (word ∷ [])) in
    e4 ∙ ap (λ l. l ++ codes " ;\n") (adds_then t1 t2 t3 (name ∷ []) (word ∷ []) e2 e3 ∙ ap (λ l. l ++ words) e1 ∙ append_assoc t0 first words)
    ∙ append_assoc t0 (first ++ words) (codes " ;\n") ∙ ap (λ l. t0 ++ l) (append_assoc first words (codes " ;\n"))
