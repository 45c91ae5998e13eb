-- What is read is spelled so: each rule of the reader takes the spelling of its value from the front of the text.
use Rattle.std.proofs.Common.{◌≡◌, ◌≢◌, ◌<◌, ◌≤◌, ◌+◌, ◌-◌, ◌*◌, ◌/◌, ◌%◌, ◌^◌, ℕ, Bool, true, false, ◌&&◌, ◌==◌, ◌⊎◌, inl, inr, List, [], ◌∷◌, ◌++◌, length, Option, Some, None, refl, ap, sym, ◌∙◌, subst, arith, lit<, append_assoc, length-append}
use Rattle.std.specs.Prelude.{Result, Ok, Err, decimal, All, if◌then◌else◌, nat_lt, drop}
use Rattle.std.specs.Char.{is_ascii_digit}
use Rattle.std.proofs.lemmas.Bool.{eqb-true, eqb-false, ltb-true, and_parts}
use Rattle.std.proofs.lemmas.Bool.Decides.{nat_tests}
use Rattle.std.proofs.lemmas.Fmt.{decimal_step, decimal_digit}
use Rattle.std.proofs.lemmas.List.Elements.{All-cons, All-nil, All-push}
use Rattle.message_tree.specs.declared.items.Item.{Item}
use Rattle.message_tree.specs.declared.items.Kind.{Kind}
use Rattle.message_tree.specs.declared.items.Kind.TheVariants as kinds
use Rattle.message_tree.specs.Symbols.{symbol_of, wire_text, kind_word}
use Rattle.certificate.specs.Reader.{FormFault, misplaced, Place, ◌>>=◌, known, line_after, byte_at, this_at, each_at, digits_at, number_at, item_of, symbols_at, wire_at, kind_of_letter, kind_at, fault_at}
use Rattle.certificate.specs.Texts.{GoesOn, fault_text}

-- ---- steps that are not refused

pub bind_ok : {A B : Type 0} (r : Result A FormFault) (f : A → Result B FormFault) (y : B) → (r >>= f) ≡ Ok y → (x : A) × (r ≡ Ok x) × (f x ≡ Ok y)
bind_ok (Ok x) f y e = (x, refl, e)
bind_ok (Err d) f y e = absurd cc

pub known_ok : {A B : Type 0} (line : ℕ) (o : Option A) (f : A → Result B FormFault) (y : B) → known line o f ≡ Ok y → (x : A) × (o ≡ Some x) × (f x ≡ Ok y)
known_ok line (Some x) f y e = (x, refl, e)
known_ok line None f y e = absurd cc

pub test_ok : {A : Type 0} (t : Bool) (r : Result A FormFault) (fault : FormFault) (y : A) → (if t then r else Err fault) ≡ Ok y → (t ≡ true) × (r ≡ Ok y)
test_ok true r fault y e = (refl, e)
test_ok false r fault y e = absurd cc

pub chosen : {A : Type 0} (t : Bool) (x y z : A) → (if t then x else y) ≡ z → ((t ≡ true) × (x ≡ z)) ⊎ ((t ≡ false) × (y ≡ z))
chosen true x y z e = inl (refl, e)
chosen false x y z e = inr (refl, e)

abbrev done : {A : Type 0} → A → Result A FormFault
done x = Ok x

pub ok_is : {A : Type 0} (x y : A) → done x ≡ done y → x ≡ y
ok_is x y e = cc

-- ---- bytes

byte_in : (line : ℕ) (rest : List ℕ) (x : ℕ × Place) → byte_at (record { line = line; rest = rest }) ≡ Ok x → rest ≡ x.0 ∷ x.1.rest
byte_in line [] x e = absurd cc
byte_in line (b ∷ rest) x e = ap (λ (y : ℕ × Place). y.0 ∷ y.1.rest) (ok_is (b, record { line = line_after line b; rest = rest }) x e)

pub byte_takes : (at : Place) (x : ℕ × Place) → byte_at at ≡ Ok x → at.rest ≡ x.0 ∷ x.1.rest
byte_takes at x e = byte_in at.line at.rest x e

pub this_takes : (v : ℕ) (at after : Place) → this_at v at ≡ Ok after → at.rest ≡ v ∷ after.rest
this_takes v at after e =
    let b = bind_ok (byte_at at) (λ b. if b.0 == v then Ok b.1 else Err (misplaced at.line)) after e in
    let is = test_ok (b.0.0 == v) (Ok b.0.1) (misplaced at.line) after b.2 in
    byte_takes at b.0 b.1 ∙ ap (λ (d : ℕ). d ∷ b.0.1.rest) (eqb-true b.0.0 v is.0) ∙ ap (λ (p : Place). v ∷ p.rest) (ok_is b.0.1 after is.1)

pub each_takes : (word : List ℕ) (at after : Place) → each_at word at ≡ Ok after → at.rest ≡ word ++ after.rest
each_takes [] at after e = ap (λ (p : Place). p.rest) (ok_is at after e)
each_takes (v ∷ word) at after e =
    let first = bind_ok (this_at v at) (each_at word) after e in
    this_takes v at first.0 first.1 ∙ ap (λ (t : List ℕ). v ∷ t) (each_takes word first.0 after first.2)

-- ---- numbers

pub decimal_more : (n d : ℕ) → 0 < n → d < 10 → n * 10 + d < 2 ^ 64 → decimal (n * 10 + d) ≡ decimal n ++ (48 + d) ∷ []
decimal_more n d positive small fits =
    let front : (n * 10 + d) / 10 ≡ n = omega arith in
    let last : (n * 10 + d) % 10 ≡ d = omega arith in
    decimal_step (n * 10 + d) (omega arith) fits ∙ ap (λ m. decimal m ++ (48 + (n * 10 + d) % 10) ∷ []) front ∙ ap (λ m. decimal n ++ (48 + m) ∷ []) last

digit_is : (b : ℕ) → is_ascii_digit b ≡ true → (48 ≤ b) × (b ≤ 57)
digit_is b h = (grind (arith, nat_tests), grind (arith, nat_tests))

digits_take : (n end line : ℕ) (rest : List ℕ) (x : ℕ × Place) → 0 < n → n < 2 ^ 32 → digits_at n end line rest ≡ Ok x → (decimal n ++ rest ≡ decimal x.0 ++ (end ∷ x.1.rest)) × (x.0 < 2 ^ 32)
digits_take n end line [] x positive fits e = absurd cc
digits_take n end line (b ∷ rest) x positive fits e =
    let m = n * 10 + (b - 48) in
    let after : Place = record { line = line_after line b; rest = rest } in
    let test = is_ascii_digit b && nat_lt m (2 ^ 32) in
    elim (chosen (b == end) (Ok (n, after)) (if test then digits_at m end (line_after line b) rest else Err (misplaced line)) (Ok x) e) [
      | inl ended ↦
          let is = ok_is (n, after) x ended.1 in
          (ap (λ (v : ℕ). decimal n ++ (v ∷ rest)) (eqb-true b end ended.0) ∙ ap (λ (y : ℕ × Place). decimal y.0 ++ (end ∷ y.1.rest)) is, subst (λ (y : ℕ × Place). y.0 < 2 ^ 32) is fits)
      | inr other ↦
          let on = test_ok test (digits_at m end (line_after line b) rest) (misplaced line) x other.1 in
          let both = and_parts (is_ascii_digit b) (nat_lt m (2 ^ 32)) on.0 in
          let range = digit_is b both.0 in
          let small : m < 2 ^ 32 = ltb-true m (2 ^ 32) both.1 in
          let same : 48 + (b - 48) ≡ b = omega (arith, range) in
          let digits : decimal m ≡ decimal n ++ b ∷ [] = decimal_more n (b - 48) positive (omega (arith, range)) (omega arith) ∙ ap (λ (d : ℕ). decimal n ++ d ∷ []) same in
          let others = digits_take m end (line_after line b) rest x (omega arith) small on.1 in
          (sym (append_assoc (decimal n) (b ∷ []) rest) ∙ ap (λ (ds : List ℕ). ds ++ rest) (sym digits) ∙ others.0, others.1)
    ]

pub number_takes : (end : ℕ) (at : Place) (x : ℕ × Place) → number_at end at ≡ Ok x → (at.rest ≡ decimal x.0 ++ (end ∷ x.1.rest)) × (x.0 < 2 ^ 32)
number_takes end at x e =
    let b = bind_ok (byte_at at) (λ b. if b.0 == 48 then (this_at end b.1 >>= λ after. Ok (0, after)) else if is_ascii_digit b.0 then digits_at (b.0 - 48) end b.1.line b.1.rest else Err (misplaced at.line)) x e in
    let v = b.0.0 in
    let front = byte_takes at b.0 b.1 in
    elim (chosen (v == 48) (this_at end b.0.1 >>= λ after. Ok (0, after)) (if is_ascii_digit v then digits_at (v - 48) end b.0.1.line b.0.1.rest else Err (misplaced at.line)) (Ok x) b.2) [
      | inl only ↦
          let behind = bind_ok (this_at end b.0.1) (λ after. Ok (0, after)) x only.1 in
          let is = ok_is (0, behind.0) x behind.2 in
          let zero_is : v ∷ b.0.1.rest ≡ decimal 0 ++ (end ∷ behind.0.rest) = ap (λ (d : ℕ). d ∷ b.0.1.rest) (eqb-true v 48 only.0) ∙ ap (λ (t : List ℕ). 48 ∷ t) (this_takes end b.0.1 behind.0 behind.1) ∙ ap (λ (ds : List ℕ). ds ++ (end ∷ behind.0.rest)) (sym (decimal_digit 0 (lit< tt))) in
          subst (λ (y : ℕ × Place). (at.rest ≡ decimal y.0 ++ (end ∷ y.1.rest)) × (y.0 < 2 ^ 32)) is (front ∙ zero_is, lit< tt)
      | inr first ↦
          let on = test_ok (is_ascii_digit v) (digits_at (v - 48) end b.0.1.line b.0.1.rest) (misplaced at.line) x first.1 in
          let range = digit_is v on.0 in
          let other : v ≢ 48 = eqb-false v 48 first.0 in
          let same : 48 + (v - 48) ≡ v = omega (arith, range) in
          let digit : decimal (v - 48) ≡ v ∷ [] = decimal_digit (v - 48) (omega (arith, range)) ∙ ap (λ (d : ℕ). d ∷ []) same in
          let others = digits_take (v - 48) end b.0.1.line b.0.1.rest x (omega (arith, range, other)) (omega (arith, range)) on.1 in
          (front ∙ ap (λ (ds : List ℕ). ds ++ b.0.1.rest) (sym digit) ∙ others.0, others.1)
    ]

-- ---- wires and kinds

symbol_from : (b : ℕ) (it : Item) → item_of b ≡ Some it → (symbol_of it ≡ b) × GoesOn it
symbol_from b it e = grind (arith, nat_tests)

-- the spelling of a wire before a text, and these items are some
pub record WireTaken (before : List ℕ) (least : ℕ) (x : List Item × Place) : Type 0 where
  pub text_is : before ≡ wire_text x.0 ++ (32 ∷ x.1.rest)
  pub goes_on : All GoesOn x.0
  pub some : least ≤ length x.0

symbols_take : (items : List Item) (line : ℕ) (rest : List ℕ) (x : List Item × Place) → All GoesOn items → symbols_at items line rest ≡ Ok x → WireTaken (wire_text items ++ rest) (length items) x
symbols_take items line [] x all e = absurd cc
symbols_take items line (b ∷ rest) x all e =
    let after : Place = record { line = line_after line b; rest = rest } in
    elim (chosen (b == 32) (Ok (items, after)) (known line (item_of b) (λ it. symbols_at (items ++ it ∷ []) (line_after line b) rest)) (Ok x) e) [
      | inl ended ↦
          subst (WireTaken (wire_text items ++ (b ∷ rest)) (length items)) (ok_is (items, after) x ended.1)
          record { text_is = ap (λ (v : ℕ). wire_text items ++ (v ∷ rest)) (eqb-true b 32 ended.0); goes_on = all; some = omega arith }
      | inr on ↦
          let k = known_ok line (item_of b) (λ it. symbols_at (items ++ it ∷ []) (line_after line b) rest) x on.1 in
          let symbol = symbol_from b k.0 k.1 in
          let others = symbols_take (items ++ k.0 ∷ []) (line_after line b) rest x (All-push GoesOn items k.0 all symbol.1) k.2 in
          let len = length-append items (k.0 ∷ []) in
          let more = others.some in
          record {
            text_is = ap (λ (v : ℕ). wire_text items ++ (v ∷ rest)) (sym symbol.0) ∙ sym (wire_push items k.0 rest) ∙ others.text_is;
            goes_on = others.goes_on;
            some = omega (arith, len, more);
          }
    ]
  where
    wire_push : (items : List Item) (it : Item) (rest : List ℕ) → wire_text (items ++ it ∷ []) ++ rest ≡ wire_text items ++ (symbol_of it ∷ rest)
    wire_push [] it rest = refl
    wire_push (i ∷ items) it rest = ap (λ (t : List ℕ). symbol_of i ∷ t) (wire_push items it rest)

pub wire_takes : (at : Place) (x : List Item × Place) → wire_at at ≡ Ok x → WireTaken at.rest 1 x
wire_takes at x e =
    let b = bind_ok (byte_at at) (λ b. known at.line (item_of b.0) (λ it. symbols_at (it ∷ []) b.1.line b.1.rest)) x e in
    let k = known_ok at.line (item_of b.0.0) (λ it. symbols_at (it ∷ []) b.0.1.line b.0.1.rest) x b.2 in
    let symbol = symbol_from b.0.0 k.0 k.1 in
    let others = symbols_take (k.0 ∷ []) b.0.1.line b.0.1.rest x (All-cons GoesOn k.0 [] symbol.1 (All-nil GoesOn)) k.2 in
    record {
      text_is = byte_takes at b.0 b.1 ∙ ap (λ (v : ℕ). v ∷ b.0.1.rest) (sym symbol.0) ∙ others.text_is;
      goes_on = others.goes_on;
      some = others.some;
    }

word_is : (b : ℕ) (k : Kind) → kind_of_letter b ≡ Some k → b ∷ drop 1 (kind_word k) ≡ kind_word k
word_is b kinds.Sent e = let is : b ≡ 100 = grind (arith, nat_tests) in ap (λ (v : ℕ). v ∷ drop 1 (kind_word kinds.Sent)) is
word_is b kinds.Heard e = let is : b ≡ 97 = grind (arith, nat_tests) in ap (λ (v : ℕ). v ∷ drop 1 (kind_word kinds.Heard)) is
word_is b kinds.Again e = let is : b ≡ 114 = grind (arith, nat_tests) in ap (λ (v : ℕ). v ∷ drop 1 (kind_word kinds.Again)) is
word_is b kinds.Stop e = let is : b ≡ 115 = grind (arith, nat_tests) in ap (λ (v : ℕ). v ∷ drop 1 (kind_word kinds.Stop)) is
word_is b kinds.Claim e = let is : b ≡ 99 = grind (arith, nat_tests) in ap (λ (v : ℕ). v ∷ drop 1 (kind_word kinds.Claim)) is

pub kind_takes : (at : Place) (x : Kind × Place) → kind_at at ≡ Ok x → at.rest ≡ kind_word x.0 ++ x.1.rest
kind_takes at x e =
    let b = bind_ok (byte_at at) (λ b. known at.line (kind_of_letter b.0) (λ kind. each_at (drop 1 (kind_word kind)) b.1 >>= λ after. Ok (kind, after))) x e in
    let k = known_ok at.line (kind_of_letter b.0.0) (λ kind. each_at (drop 1 (kind_word kind)) b.0.1 >>= λ after. Ok (kind, after)) x b.2 in
    let w = bind_ok (each_at (drop 1 (kind_word k.0)) b.0.1) (λ after. Ok (k.0, after)) x k.2 in
    byte_takes at b.0 b.1
    ∙ ap (λ (t : List ℕ). b.0.0 ∷ t) (each_takes (drop 1 (kind_word k.0)) b.0.1 w.0 w.1)
    ∙ ap (λ (t : List ℕ). t ++ w.0.rest) (word_is b.0.0 k.0 k.1)
    ∙ ap (λ (y : Kind × Place). kind_word y.0 ++ y.1.rest) (ok_is (k.0, w.0) x w.2)

-- a wire and two kinds, and the end of their line
pub record FaultTaken (before : List ℕ) (x : (List Item × Kind × Kind) × Place) : Type 0 where
  pub text_is : before ≡ fault_text x.0.0 x.0.1 x.0.2 ++ x.1.rest
  pub goes_on : All GoesOn x.0.0
  pub some : 0 < length x.0.0

pub fault_takes : (at : Place) (x : (List Item × Kind × Kind) × Place) → fault_at at ≡ Ok x → FaultTaken at.rest x
unfolding fault_at
fault_takes at x e =
    let w = bind_ok (wire_at at) (λ wire. kind_at wire.1 >>= λ first. this_at 32 first.1 >>= λ space. kind_at space >>= λ second. this_at 10 second.1 >>= λ after. Ok ((wire.0, first.0, second.0), after)) x e in
    let j = bind_ok (kind_at w.0.1) (λ first. this_at 32 first.1 >>= λ space. kind_at space >>= λ second. this_at 10 second.1 >>= λ after. Ok ((w.0.0, first.0, second.0), after)) x w.2 in
    let s = bind_ok (this_at 32 j.0.1) (λ space. kind_at space >>= λ second. this_at 10 second.1 >>= λ after. Ok ((w.0.0, j.0.0, second.0), after)) x j.2 in
    let k = bind_ok (kind_at s.0) (λ second. this_at 10 second.1 >>= λ after. Ok ((w.0.0, j.0.0, second.0), after)) x s.2 in
    let l = bind_ok (this_at 10 k.0.1) (λ after. Ok ((w.0.0, j.0.0, k.0.0), after)) x k.2 in
    let wire = wire_takes at w.0 w.1 in
    let some = wire.some in
    let kinds_are : w.0.1.rest ≡ (kind_word j.0.0 ++ (32 ∷ (kind_word k.0.0 ++ 10 ∷ []))) ++ l.0.rest =
    kind_takes w.0.1 j.0 j.1
    ∙ ap (λ (t : List ℕ). kind_word j.0.0 ++ t) (this_takes 32 j.0.1 s.0 s.1 ∙ ap (λ (t : List ℕ). 32 ∷ t) (kind_takes s.0 k.0 k.1 ∙ ap (λ (t : List ℕ). kind_word k.0.0 ++ t) (this_takes 10 k.0.1 l.0 l.1) ∙ sym (append_assoc (kind_word k.0.0) (10 ∷ []) l.0.rest)))
    ∙ sym (append_assoc (kind_word j.0.0) (32 ∷ (kind_word k.0.0 ++ 10 ∷ [])) l.0.rest) in
    subst (FaultTaken at.rest) (ok_is ((w.0.0, j.0.0, k.0.0), l.0) x l.2)
    record {
      text_is = wire.text_is ∙ ap (λ (t : List ℕ). wire_text w.0.0 ++ (32 ∷ t)) kinds_are ∙ sym (append_assoc (wire_text w.0.0) (32 ∷ (kind_word j.0.0 ++ (32 ∷ (kind_word k.0.0 ++ 10 ∷ [])))) l.0.rest);
      goes_on = wire.goes_on;
      some = omega (arith, some);
    }
