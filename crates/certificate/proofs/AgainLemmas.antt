-- What is spelled so is read again, whatever follows it. On which line the reader then stands matters for proofs and their
-- number alone.
use Rattle.std.proofs.Common.{◌≡◌, ◌≢◌, ◌<◌, ◌≤◌, ◌+◌, ◌-◌, ◌*◌, ◌/◌, ◌%◌, ◌^◌, ℕ, zero, suc, true, false, List, [], ◌∷◌, ◌++◌, length, Some, refl, ap, sym, ◌∙◌, arith, lit<, append_assoc, append-nil, length-append, eq-eqb, codes}
use Rattle.std.specs.Prelude.{Ok, decimal, flat_map, All}
use Rattle.std.specs.Char.{is_ascii_digit}
use Rattle.std.proofs.lemmas.Bool.{ne_eqb, lt-ltb}
use Rattle.std.proofs.lemmas.Bool.Decides.{nat_tests}
use Rattle.std.proofs.lemmas.Fmt.{decimal_by_steps, decimal_digit}
use Rattle.message_tree.specs.declared.items.Item.{Item}
use Rattle.message_tree.specs.declared.items.Item.TheVariants as item
use Rattle.message_tree.specs.declared.items.Kind.{Kind}
use Rattle.message_tree.specs.declared.items.Kind.TheVariants as kinds
use Rattle.message_tree.specs.Symbols.{symbol_of, wire_text, kind_word}
use Rattle.certificate.specs.declared.proofs.Token.TheVariants as token
use Rattle.certificate.specs.Proofs.{ProofTree, part, short, byte, read, again, alike}
use Rattle.certificate.specs.Reader.{Place, Reads, line_after, digits_at, number_at, item_of, symbols_at, wire_at, kind_at, fault_at, is_place, token_at, node_in, proof_at, line_at, lines_in, announced, faulty, pairs_at, flaw_at, text_said}
use Rattle.certificate.specs.Texts.{IsPrintableProof, HasPlaces, height, GoesOn, proof_text, proof_line, proofs_text, fault_text, flaw_text}
use Rattle.certificate.proofs.LineLemmas.{lines_step}

-- from a line on, these bytes are read as this value, and then what follows them is left
abbrev pub Again : {A : Type 0} → (Place → Reads A) → List ℕ → A → Type 0
Again reader bytes value =
    (line : ℕ) (rest : List ℕ) → (after : ℕ) × (reader (record { line = line; rest = bytes ++ rest }) ≡ Ok (value, record { line = after; rest = rest }))

-- ---- numbers

module _ (end : ℕ) (no_digit : is_ascii_digit end ≡ false) where
  other_end : (b : ℕ) → is_ascii_digit b ≡ true → b ≢ end
  other_end b h e = let other : is_ascii_digit b ≡ false = ap is_ascii_digit e ∙ no_digit in cc

  digit_test : (n : ℕ) → n < 10 → is_ascii_digit (48 + n) ≡ true
  digit_test n small = grind (arith, nat_tests)

  same_line : (b : ℕ) → is_ascii_digit b ≡ true → (line : ℕ) → line_after line b ≡ line
  same_line b digit line = rw (ne_eqb b 10 (λ e. let other : is_ascii_digit b ≡ false = ap is_ascii_digit e in cc)) refl

  -- from the front of a number these digits lead to its value
  abbrev Counted : ℕ → List ℕ → Type 0
  Counted n ds = 0 < n → n < 2 ^ 32 → (line : ℕ) (rest : List ℕ) → number_at end (record { line = line; rest = ds ++ rest }) ≡ digits_at n end line rest

  first_digit : (n : ℕ) → n < 10 → Counted n ((48 + n) ∷ [])
  first_digit n small positive fits line rest =
      let back : (48 + n) - 48 ≡ n = omega arith in
      let digit = digit_test n small in
      rw (ne_eqb (48 + n) 48 (λ e. omega arith), digit, back, same_line (48 + n) digit line) refl

  further_digit : (n : ℕ) (ds : List ℕ) → 10 ≤ n → Counted (n / 10) ds → Counted n (ds ++ (48 + n % 10) ∷ [])
  further_digit n ds large before positive fits line rest =
      let b = 48 + n % 10 in
      let digit = digit_test (n % 10) (omega arith) in
      let same : n / 10 * 10 + (b - 48) ≡ n = omega arith in
      let front = before (omega arith) (omega arith) line (b ∷ rest) in
      let one : digits_at (n / 10) end line (b ∷ rest) ≡ digits_at n end line rest = rw (ne_eqb b end (other_end b digit), digit, same, lt-ltb n (2 ^ 32) fits, same_line b digit line) refl in
      ap (λ (t : List ℕ). number_at end (record { line = line; rest = t })) (append_assoc ds (b ∷ []) rest) ∙ front ∙ one

  pub number_again : (n : ℕ) → n < 2 ^ 32 → (line : ℕ) (rest : List ℕ) → number_at end (record { line = line; rest = decimal n ++ (end ∷ rest) }) ≡ Ok (n, record { line = line_after line end; rest = rest })
  number_again zero fits line rest =
      ap (λ (ds : List ℕ). number_at end (record { line = line; rest = ds ++ (end ∷ rest) })) (decimal_digit 0 (lit< tt)) ∙ rw (eq-eqb end end refl) refl
  number_again (suc n) fits line rest =
      decimal_by_steps Counted first_digit further_digit (suc n) (omega arith) (omega arith) fits line (end ∷ rest) ∙ rw (eq-eqb end end refl) refl

-- ---- wires and kinds

symbol_known : (it : Item) → GoesOn it → item_of (symbol_of it) ≡ Some it
symbol_known (item.Sent true) h = refl
symbol_known (item.Sent false) h = refl
symbol_known (item.Heard true) h = refl
symbol_known (item.Heard false) h = refl
symbol_known item.Again h = refl
symbol_known item.Stop h = elim h [ ]
symbol_known item.Claim h = elim h [ ]

symbol_apart : (it : Item) → GoesOn it → symbol_of it ≢ 32
symbol_apart it h e = let is : Some it ≡ item_of 32 = sym (symbol_known it h) ∙ ap item_of e in cc

symbols_again : (before items : List Item) → All GoesOn items → (line : ℕ) (rest : List ℕ)
    → (after : ℕ) × (symbols_at before line (wire_text items ++ (32 ∷ rest)) ≡ Ok (before ++ items, record { line = after; rest = rest }))
symbols_again before [] all line rest = (line, ap (λ (is : List Item). Ok (is, record { line = line; rest = rest })) (sym (append-nil before)))
symbols_again before (it ∷ items) all line rest =
    let first : GoesOn it = all 0 it (omega arith) in
    let others = symbols_again (before ++ it ∷ []) items (λ k d within. all (suc k) d (omega arith)) (line_after line (symbol_of it)) rest in
    (others.0, rw (ne_eqb (symbol_of it) 32 (symbol_apart it first), symbol_known it first) (others.1 ∙ ap (λ (is : List Item). Ok (is, record { line = others.0; rest = rest })) (append_assoc before (it ∷ []) items)))

pub wire_again : (items : List Item) → items ≢ [] → All GoesOn items → Again wire_at (wire_text items ++ 32 ∷ []) items
wire_again [] some all line rest = absurd (some refl)
wire_again (it ∷ items) some all line rest =
    let others = symbols_again (it ∷ []) items (λ k d within. all (suc k) d (omega arith)) (line_after line (symbol_of it)) rest in
    (others.0, rw (append_assoc (wire_text items) (32 ∷ []) rest, symbol_known it (all 0 it (omega arith))) others.1)

pub kind_again : (k : Kind) → Again kind_at (kind_word k) k
kind_again kinds.Sent line rest = (line, refl)
kind_again kinds.Heard line rest = (line, refl)
kind_again kinds.Again line rest = (line, refl)
kind_again kinds.Stop line rest = (line, refl)
kind_again kinds.Claim line rest = (line, refl)

pub fault_again : (items : List Item) (first second : Kind) → items ≢ [] → All GoesOn items → Again fault_at (fault_text items first second) (items, first, second)
unfolding fault_at
fault_again items first second some all line rest =
    let last = 10 ∷ rest in
    let wire = wire_again items some all line (kind_word first ++ (32 ∷ (kind_word second ++ last))) in
    let one = kind_again first wire.0 (32 ∷ (kind_word second ++ last)) in
    let two = kind_again second one.0 last in
    let text : fault_text items first second ++ rest ≡ (wire_text items ++ 32 ∷ []) ++ (kind_word first ++ (32 ∷ (kind_word second ++ last))) = simp append_assoc refl in
    (two.0 + 1, ap (λ (t : List ℕ). fault_at (record { line = line; rest = t })) text ∙ rw (wire.1, one.1, two.1) refl)

-- ---- proofs, which stand on one line

-- from a line on, these bytes are read as this value, and what follows them is left on the same line
abbrev pub AgainHere : {A : Type 0} → (Place → Reads A) → List ℕ → A → Type 0
AgainHere reader bytes value =
    (line : ℕ) (rest : List ℕ) → reader (record { line = line; rest = bytes ++ rest }) ≡ Ok (value, record { line = line; rest = rest })

place_again : (k : ℕ) → k < 8 → AgainHere token_at (80 ∷ decimal k) (token.Part k)
place_again k small line rest =
    let is : is_place (48 + k) ≡ true = grind (arith, nat_tests) in
    let back : (48 + k) - 48 ≡ k = omega arith in
    rw (decimal_digit k (omega arith), is, back, ne_eqb (48 + k) 10 (λ e. omega arith)) refl

-- two proofs below a node
two_text : (p q : ProofTree) (rest : List ℕ) → (proof_text p ++ (32 ∷ proof_text q)) ++ rest ≡ proof_text p ++ (32 ∷ (proof_text q ++ rest))
two_text p q rest = append_assoc (proof_text p) (32 ∷ proof_text q) rest

some_height : (tree : ProofTree) → 0 < height tree
some_height (part k) = lit< tt
some_height short = lit< tt
some_height alike = lit< tt
some_height (again p) = omega arith
some_height (byte p q) = omega arith
some_height (read p q) = omega arith

pub proof_again : (room : ℕ) (tree : ProofTree) → HasPlaces tree → height tree ≤ room → AgainHere (proof_at room) (proof_text tree) tree
unfolding node_in
proof_again (suc room) (part k) places path line rest = rw (place_again k places line rest) refl
proof_again (suc room) short places path line rest = refl
proof_again (suc room) alike places path line rest = refl
proof_again (suc room) (again frames) places path line rest = rw (proof_again room frames places (omega arith) line rest) refl
proof_again (suc room) (byte p q) places path line rest =
    let first = proof_again room p places.0 (omega arith) line (32 ∷ (proof_text q ++ rest)) in
    let second = proof_again room q places.1 (omega arith) line rest in
    rw (two_text p q rest, first, second) refl
proof_again (suc room) (read p q) places path line rest =
    let first = proof_again room p places.0 (omega arith) line (32 ∷ (proof_text q ++ rest)) in
    let second = proof_again room q places.1 (omega arith) line rest in
    rw (two_text p q rest, first, second) refl
proof_again zero tree places path line rest = absurd (omega (arith, some_height tree, path))

-- ---- lines

-- a line is read, and what follows it is left on the next
pub line_again : (tree : ProofTree) → IsPrintableProof 512 tree → (line : ℕ) (rest : List ℕ)
    → line_at (record { line = line; rest = proof_line tree ++ rest }) ≡ Ok (tree, record { line = line + 1; rest = rest })
unfolding line_at
line_again tree printable line rest =
    let proof = proof_again 512 tree printable.places printable.path line (10 ∷ rest) in
    ap (λ (t : List ℕ). line_at (record { line = line; rest = t })) (append_assoc (proof_text tree) (10 ∷ []) rest) ∙ rw proof refl

pub lines_again : (trees : List ProofTree) (most line : ℕ) → All (IsPrintableProof 512) trees → length (flat_map proof_line trees) ≤ most → lines_in most line (flat_map proof_line trees) ≡ Ok trees
unfolding lines_in
lines_again [] most line all fits = refl
lines_again (t ∷ trees) zero line all fits =
    let len = length-append (proof_line t) (flat_map proof_line trees) in let end = length-append (proof_text t) (10 ∷ []) in absurd (omega (arith, fits, len, end))
lines_again (t ∷ trees) (suc most) line all fits =
    let len = length-append (proof_line t) (flat_map proof_line trees) in
    let end = length-append (proof_text t) (10 ∷ []) in
    let first = line_again t (all 0 t (omega arith)) line (flat_map proof_line trees) in
    let others = lines_again trees most (line + 1) (λ k d within. all (suc k) d (omega arith)) (omega (arith, fits, len, end)) in
    lines_step most line (flat_map proof_line (t ∷ trees)) (omega (arith, len, end)) ∙ rw (first, others) refl

-- ---- texts

-- the number of proofs is read, and what follows it is left on the third line
pub pairs_again : (number : ℕ) (rest : List ℕ) → number < 2 ^ 32 → pairs_at (record { line = 2; rest = codes "airs " ++ (decimal number ++ (10 ∷ rest)) }) ≡ Ok (number, record { line = 3; rest = rest })
unfolding pairs_at
pairs_again number rest fits = number_again 10 refl number fits 2 rest

pub announced_again : (number : ℕ) (trees : List ProofTree) → number < 2 ^ 32 → All (IsPrintableProof 512) trees → text_said (codes "cert 1\n" ++ proofs_text number trees) ≡ Ok (announced number trees)
unfolding text_said pairs_at
announced_again number trees fits all =
    let lines = flat_map proof_line trees in
    rw (number_again 10 refl number fits 2 lines, lines_again trees (length lines) 3 all (omega arith)) refl

pub faulty_again : (pair : ℕ) (items : List Item) (first second : Kind) → pair < 2 ^ 32 → items ≢ [] → All GoesOn items → text_said (codes "cert 1\n" ++ flaw_text pair items first second) ≡ Ok (faulty pair items first second)
unfolding text_said flaw_at
faulty_again pair items first second fits some all =
    let number = number_again 32 refl pair fits 2 (fault_text items first second) in
    let fault = fault_again items first second some all 2 [] in
    let fault_is : fault_at (record { line = 2; rest = fault_text items first second }) ≡ Ok ((items, first, second), record { line = fault.0; rest = [] }) =
    ap (λ (t : List ℕ). fault_at (record { line = 2; rest = t })) (sym (append-nil (fault_text items first second))) ∙ fault.1 in
    rw (number, fault_is) refl
