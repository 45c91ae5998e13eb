-- Words and the values that they stand for: a word is that of its value, and of no other.
use Rattle.std.proofs.Common.{◌≡◌, ℕ, ◌+◌, ◌*◌, ◌%◌, ◌<◌, ◌≤◌, ◌^◌, bit_and, Bool, true, false, ◌==◌, ◌⊎◌, inl, inr, List, [], ◌∷◌, ◌++◌, Some, None, refl, sym, ap, ◌∙◌, subst, arith, map, length, lit<, le_refl, nat_le, add-one, append_assoc, append-nil}
use Rattle.std.specs.List.{list_all}
use Rattle.std.specs.Prelude.{if◌then◌else◌}
use Rattle.std.proofs.Math.Bridge.{le_prop}
use Rattle.std.proofs.Math.Nat.{ℕ_set}
use Rattle.std.proofs.lemmas.Bool.{and_from, and_parts, true_from_ne_false, eqb-true}
use Rattle.std.proofs.lemmas.Bool.Decides.{nat_tests}
use Rattle.std.proofs.lemmas.List.{map-append}
use Rattle.std.proofs.lemmas.Nat.{and_mask}
use Rattle.message_tree.specs.declared.bits.Bit.{Bit}
use Rattle.message_tree.specs.declared.bits.Bit.TheVariants.{Zero, One, Either}
use Rattle.message_tree.specs.declared.bits.Address.{Address}
use Rattle.message_tree.specs.declared.bits.Pattern.{Pattern}
use Rattle.message_tree.specs.declared.counts.Count.{Count}
use Rattle.message_tree.specs.Bits.{bit_from, bits_below}
use Rattle.message_tree.specs.Counts.{least_of, greatest_of}
use Rattle.message_tree.specs.Patterns.{address_bits, pattern_bits}
use Rattle.message_tree.proofs.BitLemmas.{same_known, same_value, bits_below-masked}
use Rattle.plan_text.specs.Symbols.{bit_symbol, address_word, pattern_word, interrupt_word}
use Rattle.plan_text.specs.Values.{binary, known_digit, value_digit, address_by, pattern_by, where_true, address_of, pattern_of, known_address_of, count_by, count_of}
use Rattle.plan_text.specs.Words.{is_bit, is_known_bit, is_pattern, is_known_address, in_range, number}
use Rattle.plan_text.proofs.WordLemmas.{all_bits, all_known, all_ones, bits_below_push, next_fits, no_known_bits}

-- ---- words

same_symbol : (a b : Bit) → bit_symbol a ≡ bit_symbol b → a ≡ b
same_symbol Zero Zero e = refl
same_symbol Zero One e = absurd (omega arith)
same_symbol Zero Either e = absurd (omega arith)
same_symbol One Zero e = absurd (omega arith)
same_symbol One One e = refl
same_symbol One Either e = absurd (omega arith)
same_symbol Either Zero e = absurd (omega arith)
same_symbol Either One e = absurd (omega arith)
same_symbol Either Either e = refl

-- the same symbols are of the same bits
same_symbols : (more bs : List Bit) → map bit_symbol more ≡ map bit_symbol bs → more ≡ bs
same_symbols [] [] e = refl
same_symbols [] (b ∷ bs) e = absurd cc
same_symbols (a ∷ more) [] e = absurd cc
same_symbols (a ∷ more) (b ∷ bs) e =
    let head : bit_symbol a ≡ bit_symbol b = cc in
    let tail : map bit_symbol more ≡ map bit_symbol bs = cc in
    let first = same_symbol a b head in
    let others = same_symbols more bs tail in
    cc

-- two numbers with proofs of facts of them
record Two (P : ℕ → ℕ → Type 0) : Type 0 where
  first : ℕ
  second : ℕ
  facts : P first second

same_two : (P : ℕ → ℕ → Type 0) → ((m n : ℕ) → IsProp (P m n)) → (x y : Two P) → x.first ≡ y.first → x.second ≡ y.second → x ≡ y
same_two P prop x y e f =
    let at_second : ℕ → Type 0 = λ n. (h : P x.first n) → x ≡ record { first = x.first; second = n; facts = h } in
    let at_first : ℕ → Type 0 = λ m. (h : P m y.second) → x ≡ record { first = m; second = y.second; facts = h } in
    let made : P x.first x.second → Two P = λ h. record { first = x.first; second = x.second; facts = h } in
    let here : at_second x.second = λ h. ap made (prop x.first x.second x.facts h) in
    subst at_first e (subst at_second f here) y.facts

abbrev BytesOf : ℕ → ℕ → ℕ → Type 0
BytesOf width known value = (known < 2 ^ width) × (bit_and value known ≡ value)

bytes_prop : (width known value : ℕ) → IsProp (BytesOf width known value)
bytes_prop width known value = hlevel (le_prop, ℕ_set)

pub same_address : (a b : Address) → address_word a ≡ address_word b → a ≡ b
unfolding address_bits
same_address a b e =
    let bits = same_symbols (address_bits a) (address_bits b) e in
    let known = same_known 7 a.known a.value b.known b.value a.known_is_address b.known_is_address bits in
    let value = same_value 7 a.known a.value b.known b.value a.known_is_address b.known_is_address a.open_bits_are_zero b.open_bits_are_zero bits in
    let bytes : Address → Two (BytesOf 7) = λ r. record { first = r.known; second = r.value; facts = (r.known_is_address, r.open_bits_are_zero) } in
    let address : Two (BytesOf 7) → Address = λ t. record { known = t.first; value = t.second; known_is_address = t.facts.0; open_bits_are_zero = t.facts.1 } in
    ap address (same_two (BytesOf 7) (bytes_prop 7) (bytes a) (bytes b) known value)

same_pattern : (p q : Pattern) → pattern_word p ≡ pattern_word q → p ≡ q
unfolding pattern_bits
same_pattern p q e =
    let bits = same_symbols (pattern_bits p) (pattern_bits q) e in
    let known = same_known 8 p.known p.value q.known q.value p.known_is_byte q.known_is_byte bits in
    let value = same_value 8 p.known p.value q.known q.value p.known_is_byte q.known_is_byte p.open_bits_are_zero q.open_bits_are_zero bits in
    let bytes : Pattern → Two (BytesOf 8) = λ r. record { first = r.known; second = r.value; facts = (r.known_is_byte, r.open_bits_are_zero) } in
    let pattern : Two (BytesOf 8) → Pattern = λ t. record { known = t.first; value = t.second; known_is_byte = t.facts.0; open_bits_are_zero = t.facts.1 } in
    ap pattern (same_two (BytesOf 8) (bytes_prop 8) (bytes p) (bytes q) known value)

abbrev EndsOf : ℕ → ℕ → Type 0
EndsOf least greatest = (0 < least) × (least ≤ greatest) × (greatest < 2 ^ 8)

ends_prop : (least greatest : ℕ) → IsProp (EndsOf least greatest)
ends_prop least greatest = hlevel (le_prop, ℕ_set)

-- counts with the same two ends are the same
same_count : (c d : Count) → least_of c ≡ least_of d → greatest_of c ≡ greatest_of d → c ≡ d
same_count c d e f =
    let ends : Count → Two EndsOf = λ r. record { first = r.least; second = r.greatest; facts = (r.positive, r.ordered, r.is_byte) } in
    let count : Two EndsOf → Count = λ t. record { least = t.first; greatest = t.second; positive = t.facts.0; ordered = t.facts.1; is_byte = t.facts.2 } in
    ap count (same_two EndsOf ends_prop (ends c) (ends d) e f)

-- known addresses with the same word
same_known_address : (m n : ℕ) → m < 128 → n < 128 → interrupt_word m ≡ interrupt_word n → m ≡ n
same_known_address m n a b e =
    let low : bit_and m 127 ≡ m = and_mask m 7 ∙ omega arith in
    let low2 : bit_and n 127 ≡ n = and_mask n 7 ∙ omega arith in
    same_value 7 127 m 127 n (lit< tt) (lit< tt) low low2 (same_symbols (bits_below 7 127 m) (bits_below 7 127 n) e)

-- ---- the value of a word

bit_cases : (b : ℕ) → is_bit b ≡ true → (b ≡ 48) ⊎ ((b ≡ 49) ⊎ (b ≡ 120))
bit_cases b h = grind (arith, nat_tests)

abbrev symbol_again : ℕ → ℕ
symbol_again b = bit_symbol (bit_from (known_digit b) (value_digit b))

symbol_same : (b : ℕ) → (b ≡ 48) ⊎ ((b ≡ 49) ⊎ (b ≡ 120)) → symbol_again b ≡ b
symbol_same b (inl e) = ap symbol_again e ∙ sym e
symbol_same b (inr (inl e)) = ap symbol_again e ∙ sym e
symbol_same b (inr (inr e)) = ap symbol_again e ∙ sym e

known_small : (b : ℕ) → known_digit b < 2
known_small b = grind (arith, nat_tests)

value_small : (b : ℕ) → value_digit b < 2
value_small b = grind (arith, nat_tests)

-- after n bits these characters make m
pub record BitsRead (m known value : ℕ) (bytes : List ℕ) : Type 0 where
  pub known_fits : known < 2 ^ m
  pub value_fits : value < 2 ^ m
  pub bits : map bit_symbol (bits_below m known value) ≡ bytes

read_on : (bytes front : List ℕ) (n m known value : ℕ) → list_all is_bit bytes ≡ true → n + length bytes ≡ m → BitsRead n known value front → BitsRead m (binary known_digit known bytes) (binary value_digit value bytes) (front ++ bytes)
read_on [] front n m known value all end so_far =
    let same : n ≡ m = omega arith in
    subst (BitsRead m known value) (sym (append-nil front)) (subst (λ j. BitsRead j known value front) same so_far)
read_on (b ∷ bytes) front n m known value all end so_far =
    let parts = and_parts (is_bit b) (list_all is_bit bytes) all in
    let symbol = symbol_same b (bit_cases b parts.0) in
    let more : BitsRead (n + 1) (known * 2 + known_digit b) (value * 2 + value_digit b) (front ++ b ∷ []) = record {
      known_fits = next_fits known n (known_digit b) so_far.known_fits (known_small b);
      value_fits = next_fits value n (value_digit b) so_far.value_fits (value_small b);
      bits =
          ap (λ k. map bit_symbol (bits_below k (known * 2 + known_digit b) (value * 2 + value_digit b))) (add-one n)
          ∙ ap (map bit_symbol) (bits_below_push n known value (known_digit b) (value_digit b) (known_small b) (value_small b))
          ∙ map-append bit_symbol (bits_below n known value) (bit_from (known_digit b) (value_digit b) ∷ [])
          ∙ ap (λ l. l ++ (symbol_again b ∷ [])) so_far.bits
          ∙ ap (λ c. front ++ (c ∷ [])) symbol;
    } in
    subst (BitsRead m (binary known_digit known (b ∷ bytes)) (binary value_digit value (b ∷ bytes))) (append_assoc front (b ∷ []) bytes)
    (read_on bytes (front ++ b ∷ []) (n + 1) m (known * 2 + known_digit b) (value * 2 + value_digit b) parts.1 (omega arith) more)

module _ (bytes : List ℕ) where
  abbrev pub known_of : ℕ
  known_of = binary known_digit 0 bytes

  abbrev pub value_of : ℕ
  value_of = binary value_digit 0 bytes

  pub whole : (n : ℕ) → length bytes ≡ n → list_all is_bit bytes ≡ true → BitsRead n known_of value_of bytes
  whole n len all = read_on bytes [] 0 n 0 0 all (omega arith) (record { known_fits = lit< tt; value_fits = lit< tt; bits = refl })

  address_made : is_pattern 7 bytes ≡ true → address_word (address_by known_of value_of) ≡ bytes
  unfolding address_bits
  address_made h =
      let parts = and_parts (length bytes == 7) (list_all is_bit bytes) h in
      let read = whole 7 (eqb-true (length bytes) 7 parts.0) parts.1 in
      let fits = read.known_fits in
      let same : known_of % 2 ^ 7 ≡ known_of = omega (arith, fits) in
      rw same (ap (map bit_symbol) (bits_below-masked 7 known_of value_of) ∙ read.bits)

  pattern_made : is_pattern 8 bytes ≡ true → pattern_word (pattern_by known_of value_of) ≡ bytes
  unfolding pattern_bits
  pattern_made h =
      let parts = and_parts (length bytes == 8) (list_all is_bit bytes) h in
      let read = whole 8 (eqb-true (length bytes) 8 parts.0) parts.1 in
      let fits = read.known_fits in
      let same : known_of % 2 ^ 8 ≡ known_of = omega (arith, fits) in
      rw same (ap (map bit_symbol) (bits_below-masked 8 known_of value_of) ∙ read.bits)

  abbrev IsKnown : ℕ → Type 0
  IsKnown address = (address < 128) × (interrupt_word address ≡ bytes)

  known_made : is_known_address bytes ≡ true → IsKnown value_of
  known_made h =
      let parts = and_parts (length bytes == 7) (list_all is_known_bit bytes) h in
      let all : list_all is_bit bytes ≡ true = true_from_ne_false _ (λ none. let fails = no_known_bits bytes none in cc) in
      let read = whole 7 (eqb-true (length bytes) 7 parts.0) all in
      let ones = all_ones known_of value_of read.known_fits (ap (list_all is_known_bit) read.bits ∙ parts.1) in
      let small = read.value_fits in
      (omega (arith, small), ap (λ k. map bit_symbol (bits_below 7 k value_of)) (sym ones) ∙ read.bits)

-- ---- what a word stands for

module _ {A : Type 0} (P : A → Type 0) (made : A) where
  if_is : (t : Bool) (x : A) → (t ≡ true → P made) → (if t then Some made else None) ≡ Some x → P x
  if_is true x h e = let is : made ≡ x = cc in subst P is (h refl)
  if_is false x h e = absurd cc

  if_found : (t : Bool) (x : A) → (t ≡ true → P made) → t ≡ true → ((y : A) → P y → y ≡ x) → (if t then Some made else None) ≡ Some x
  if_found true x h e same = ap Some (same made (h refl))
  if_found false x h e same = absurd cc

module _ (bytes : List ℕ) where
  pub address_is : (a : Address) → address_of bytes ≡ Some a → address_word a ≡ bytes
  unfolding address_of
  address_is a e = if_is (λ x. address_word x ≡ bytes) (address_by (known_of bytes) (value_of bytes)) (is_pattern 7 bytes) a (address_made bytes) e

  pub address_found : (a : Address) → address_word a ≡ bytes → address_of bytes ≡ Some a
  unfolding address_of address_bits
  address_found a e =
      if_found (λ x. address_word x ≡ bytes) (address_by (known_of bytes) (value_of bytes)) (is_pattern 7 bytes) a (address_made bytes) (ap (is_pattern 7) (sym e) ∙ all_bits (address_bits a)) (λ y f. same_address y a (f ∙ sym e))

  pub address_none : is_pattern 7 bytes ≡ false → address_of bytes ≡ None
  unfolding address_of
  address_none e = rw e refl

  pub pattern_is : (p : Pattern) → pattern_of bytes ≡ Some p → pattern_word p ≡ bytes
  unfolding pattern_of
  pattern_is p e = if_is (λ x. pattern_word x ≡ bytes) (pattern_by (known_of bytes) (value_of bytes)) (is_pattern 8 bytes) p (pattern_made bytes) e

  pub pattern_found : (p : Pattern) → pattern_word p ≡ bytes → pattern_of bytes ≡ Some p
  unfolding pattern_of pattern_bits
  pattern_found p e =
      if_found (λ x. pattern_word x ≡ bytes) (pattern_by (known_of bytes) (value_of bytes)) (is_pattern 8 bytes) p (pattern_made bytes) (ap (is_pattern 8) (sym e) ∙ all_bits (pattern_bits p)) (λ y f. same_pattern y p (f ∙ sym e))

  pub pattern_none : is_pattern 8 bytes ≡ false → pattern_of bytes ≡ None
  unfolding pattern_of
  pattern_none e = rw e refl

  pub known_is : (address : ℕ) → known_address_of bytes ≡ Some address → IsKnown bytes address
  unfolding known_address_of
  known_is address e = if_is (IsKnown bytes) (value_of bytes) (is_known_address bytes) address (known_made bytes) e

  pub known_found : (address : ℕ) → address < 128 → interrupt_word address ≡ bytes → known_address_of bytes ≡ Some address
  unfolding known_address_of
  known_found address small e =
      if_found (IsKnown bytes) (value_of bytes) (is_known_address bytes) address (known_made bytes) (ap is_known_address (sym e) ∙ and_from _ _ refl (all_known 7 address (le_refl 7))) (λ y f. same_known_address y address f.0 small (f.1 ∙ sym e))

  pub known_none : is_known_address bytes ≡ false → known_address_of bytes ≡ None
  unfolding known_address_of
  known_none e = rw e refl

leb_is : (m n : ℕ) → m ≤ n → nat_le m n ≡ true
leb_is m n h = grind arith

module _ (m n : ℕ) where
  abbrev InBytes : Type 0
  InBytes = (0 < m) × (m ≤ n) × (n < 2 ^ 8)

  where_is : (t : Bool) (f : t ≡ true → InBytes) (c : Count) → where_true t (λ h. count_by m n (f h)) ≡ Some c → (m ≡ least_of c) × (n ≡ greatest_of c)
  where_is true f c e = let is : count_by m n (f refl) ≡ c = cc in (ap least_of is, ap greatest_of is)
  where_is false f c e = absurd cc

  where_found : (t : Bool) (f : t ≡ true → InBytes) (c : Count) → t ≡ true → m ≡ least_of c → n ≡ greatest_of c → where_true t (λ h. count_by m n (f h)) ≡ Some c
  where_found true f c is least greatest = ap Some (same_count (count_by m n (f refl)) c least greatest)
  where_found false f c is least greatest = absurd cc

  where_none : (t : Bool) (f : t ≡ true → InBytes) → t ≡ false → where_true t (λ h. count_by m n (f h)) ≡ None
  where_none true f is = absurd cc
  where_none false f is = refl

module _ (ends : List ℕ × List ℕ) where
  pub count_is : (c : Count) → count_of ends ≡ Some c → (number ends.0 ≡ least_of c) × (number ends.1 ≡ greatest_of c)
  unfolding count_of
  count_is c e = where_is (number ends.0) (number ends.1) (in_range ends) _ c e

  pub count_found : (c : Count) → number ends.0 ≡ least_of c → number ends.1 ≡ greatest_of c → count_of ends ≡ Some c
  unfolding count_of
  count_found c least greatest =
      let range : in_range ends ≡ true = rw (least, greatest, leb_is 1 (least_of c) c.positive, leb_is (least_of c) (greatest_of c) c.ordered, leb_is (greatest_of c) 255 (omega (arith, c.is_byte))) refl in
      where_found (number ends.0) (number ends.1) (in_range ends) _ c range least greatest

  pub count_none : in_range ends ≡ false → count_of ends ≡ None
  unfolding count_of
  count_none e = where_none (number ends.0) (number ends.1) (in_range ends) _ e
