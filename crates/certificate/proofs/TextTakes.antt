-- What is read is spelled so: proofs, lines of proofs, and whole texts.
use Rattle.std.proofs.Common.{◌≡◌, ◌<◌, ◌≤◌, ◌+◌, ◌-◌, ◌^◌, ℕ, zero, suc, true, ◌==◌, inl, inr, List, [], ◌∷◌, ◌++◌, length, max, Some, refl, ap, sym, ◌∙◌, subst, arith, append_assoc, append-nil, codes}
use Rattle.std.specs.Prelude.{Ok, Err, decimal, flat_map, All, if◌then◌else◌}
use Rattle.std.proofs.lemmas.Bool.{eqb-true}
use Rattle.std.proofs.lemmas.Bool.Decides.{nat_tests}
use Rattle.std.proofs.lemmas.Fmt.{decimal_digit}
use Rattle.std.proofs.lemmas.List.{nil_from_length}
use Rattle.std.proofs.lemmas.List.Elements.{All-cons, All-nil}
use Rattle.certificate.specs.declared.proofs.Token.{Token}
use Rattle.certificate.specs.declared.proofs.Token.TheVariants as token
use Rattle.certificate.specs.Proofs.{ProofTree, part, short, byte, read, again, alike}
use Rattle.certificate.specs.Reader.{misplaced, Place, ◌>>=◌, known, byte_at, this_at, each_at, number_at, is_place, bit_place_at, token_of_letter, token_at, spaced, node_in, proof_at, line_at, lines_in, lines_at, fault_at, Said, announced, faulty, pairs_at, flaw_at, proofs_from, start, text_said}
use Rattle.certificate.specs.Refusals.{Says}
use Rattle.certificate.specs.Texts.{IsPrintableProof, HasPlaces, height, proof_text, proof_line, fault_text}
use Rattle.certificate.proofs.TakesLemmas.{bind_ok, known_ok, test_ok, chosen, ok_is, byte_takes, this_takes, each_takes, number_takes, fault_takes}

-- ---- tokens

place_range : (b : ℕ) → is_place b ≡ true → (48 ≤ b) × (b ≤ 55)
place_range b h = (grind (arith, nat_tests), grind (arith, nat_tests))

bit_place_takes : (at : Place) (x : ℕ × Place) → bit_place_at at ≡ Ok x → (at.rest ≡ decimal x.0 ++ x.1.rest) × (x.0 < 8)
bit_place_takes at x e =
    let b = bind_ok (byte_at at) (λ b. if is_place b.0 then Ok (b.0 - 48, b.1) else Err (misplaced at.line)) x e in
    let is = test_ok (is_place b.0.0) (Ok (b.0.0 - 48, b.0.1)) (misplaced at.line) x b.2 in
    let range = place_range b.0.0 is.0 in
    let same : 48 + (b.0.0 - 48) ≡ b.0.0 = omega (arith, range) in
    let digit : decimal (b.0.0 - 48) ≡ b.0.0 ∷ [] = decimal_digit (b.0.0 - 48) (omega (arith, range)) ∙ ap (λ (d : ℕ). d ∷ []) same in
    subst (λ (y : ℕ × Place). (at.rest ≡ decimal y.0 ++ y.1.rest) × (y.0 < 8)) (ok_is (b.0.0 - 48, b.0.1) x is.1)
    (byte_takes at b.0 b.1 ∙ ap (λ (ds : List ℕ). ds ++ b.0.1.rest) (sym digit), omega (arith, range))

abbrev pub token_text : Token → List ℕ
token_text (token.Part k) = codes "P" ++ decimal k
token_text token.Short = codes "R"
token_text token.Alike = codes "."
token_text token.Again = codes "S"
token_text token.Byte = codes "B"
token_text token.Read = codes "D"

abbrev HasPlace : Token → Type 0
HasPlace (token.Part k) = k < 8
HasPlace letter = Unit {0}

letter_is : (b : ℕ) (t : Token) → token_of_letter b ≡ Some t → (b ∷ [] ≡ token_text t) × HasPlace t
letter_is b (token.Part k) e = absurd (grind (arith, nat_tests))
letter_is b token.Short e = let is : b ≡ 82 = grind (arith, nat_tests) in (ap (λ (v : ℕ). v ∷ []) is, tt)
letter_is b token.Alike e = let is : b ≡ 46 = grind (arith, nat_tests) in (ap (λ (v : ℕ). v ∷ []) is, tt)
letter_is b token.Again e = let is : b ≡ 83 = grind (arith, nat_tests) in (ap (λ (v : ℕ). v ∷ []) is, tt)
letter_is b token.Byte e = let is : b ≡ 66 = grind (arith, nat_tests) in (ap (λ (v : ℕ). v ∷ []) is, tt)
letter_is b token.Read e = let is : b ≡ 68 = grind (arith, nat_tests) in (ap (λ (v : ℕ). v ∷ []) is, tt)

token_takes : (at : Place) (x : Token × Place) → token_at at ≡ Ok x → (at.rest ≡ token_text x.0 ++ x.1.rest) × HasPlace x.0
token_takes at x e =
    let b = bind_ok (byte_at at) (λ b. if b.0 == 80 then (bit_place_at b.1 >>= λ k. Ok (token.Part k.0, k.1)) else known at.line (token_of_letter b.0) (λ letter. Ok (letter, b.1))) x e in
    let front = byte_takes at b.0 b.1 in
    elim (chosen (b.0.0 == 80) (bit_place_at b.0.1 >>= λ k. Ok (token.Part k.0, k.1)) (known at.line (token_of_letter b.0.0) (λ letter. Ok (letter, b.0.1))) (Ok x) b.2) [
      | inl placed ↦
          let k = bind_ok (bit_place_at b.0.1) (λ k. Ok (token.Part k.0, k.1)) x placed.1 in
          let there = bit_place_takes b.0.1 k.0 k.1 in
          subst (λ (y : Token × Place). (at.rest ≡ token_text y.0 ++ y.1.rest) × HasPlace y.0) (ok_is (token.Part k.0.0, k.0.1) x k.2)
          (front ∙ ap (λ (v : ℕ). v ∷ b.0.1.rest) (eqb-true b.0.0 80 placed.0) ∙ ap (λ (t : List ℕ). 80 ∷ t) there.0, there.1)
      | inr other ↦
          let t = known_ok at.line (token_of_letter b.0.0) (λ letter. Ok (letter, b.0.1)) x other.1 in
          let letter = letter_is b.0.0 t.0 t.1 in
          subst (λ (y : Token × Place). (at.rest ≡ token_text y.0 ++ y.1.rest) × HasPlace y.0) (ok_is (t.0, b.0.1) x t.2)
          (front ∙ ap (λ (t : List ℕ). t ++ b.0.1.rest) letter.0, letter.1)
    ]

-- ---- proofs

-- a proof with room for so many nodes, before the place after it
pub record ProofTaken (room : ℕ) (before : List ℕ) (x : ProofTree × Place) : Type 0 where
  pub text_is : before ≡ proof_text x.0 ++ x.1.rest
  pub printable : IsPrintableProof room x.0

-- what node_in takes where there is room for so many nodes
abbrev Nodes : ℕ → Type 0
Nodes room = (letter : Token) (at : Place) (x : ProofTree × Place) → HasPlace letter → node_in room letter at ≡ Ok x → ProofTaken room (token_text letter ++ at.rest) x

from_nodes : (room : ℕ) → Nodes room → (at : Place) (x : ProofTree × Place) → proof_at room at ≡ Ok x → ProofTaken room at.rest x
from_nodes room nodes at x e =
    let t = bind_ok (token_at at) (λ letter. node_in room letter.0 letter.1) x e in
    let letter = token_takes at t.0 t.1 in
    let node = nodes t.0.0 t.0.1 x letter.1 t.2 in
    record { text_is = letter.0 ∙ node.text_is; printable = node.printable }

below_takes : (room : ℕ) → Nodes room → (at : Place) (x : ProofTree × Place) → spaced (proof_at room) at ≡ Ok x → (at.rest ≡ 32 ∷ (proof_text x.0 ++ x.1.rest)) × IsPrintableProof room x.0
below_takes room nodes at x e =
    let space = bind_ok (this_at 32 at) (proof_at room) x e in
    let proof = from_nodes room nodes space.0 x space.2 in
    (this_takes 32 at space.0 space.1 ∙ ap (λ (t : List ℕ). 32 ∷ t) proof.text_is, proof.printable)

two_take : (room letter : ℕ) (make : ProofTree → ProofTree → ProofTree) → ((p q : ProofTree) → proof_text (make p q) ≡ letter ∷ (32 ∷ (proof_text p ++ (32 ∷ proof_text q))))
    → ((p q : ProofTree) → HasPlaces p × HasPlaces q → HasPlaces (make p q)) → ((p q : ProofTree) → height (make p q) ≡ 1 + max (height p) (height q))
    → Nodes room → (at : Place) (x : ProofTree × Place) → (spaced (proof_at room) at >>= λ p. spaced (proof_at room) p.1 >>= λ q. Ok (make p.0 q.0, q.1)) ≡ Ok x
    → ProofTaken (suc room) (letter ∷ at.rest) x
two_take room letter make text places high nodes at x e =
    let p = bind_ok (spaced (proof_at room) at) (λ p. spaced (proof_at room) p.1 >>= λ q. Ok (make p.0 q.0, q.1)) x e in
    let q = bind_ok (spaced (proof_at room) p.0.1) (λ q. Ok (make p.0.0 q.0, q.1)) x p.2 in
    let first = below_takes room nodes at p.0 p.1 in
    let second = below_takes room nodes p.0.1 q.0 q.1 in
    let one = first.1.path in
    let two = second.1.path in
    let path = high p.0.0 q.0.0 in
    subst (ProofTaken (suc room) (letter ∷ at.rest)) (ok_is (make p.0.0 q.0.0, q.0.1) x q.2)
    record {
      text_is =
          ap (λ (t : List ℕ). letter ∷ t) (first.0 ∙ ap (λ (t : List ℕ). 32 ∷ (proof_text p.0.0 ++ t)) second.0 ∙ ap (λ (t : List ℕ). 32 ∷ t) (sym (append_assoc (proof_text p.0.0) (32 ∷ proof_text q.0.0) q.0.1.rest)))
          ∙ ap (λ (t : List ℕ). t ++ q.0.1.rest) (sym (text p.0.0 q.0.0));
      printable = record { places = places p.0.0 q.0.0 (first.1.places, second.1.places); path = omega (arith, path, one, two) };
    }

leaf_takes : (room : ℕ) (at : Place) (tree : ProofTree) (x : ProofTree × Place) → HasPlaces tree → height tree ≡ 1 → (tree, at) ≡ x → ProofTaken (suc room) (proof_text tree ++ at.rest) x
leaf_takes room at tree x places high is =
    subst (ProofTaken (suc room) (proof_text tree ++ at.rest)) is record { text_is = refl; printable = record { places = places; path = omega (arith, high) } }

nodes_take : (room : ℕ) → Nodes room
unfolding node_in
nodes_take zero letter at x place e = absurd cc
nodes_take (suc room) (token.Part k) at x place e = leaf_takes room at (part k) x place refl (ok_is (part k, at) x e)
nodes_take (suc room) token.Short at x place e = leaf_takes room at short x tt refl (ok_is (short, at) x e)
nodes_take (suc room) token.Alike at x place e = leaf_takes room at alike x tt refl (ok_is (alike, at) x e)
nodes_take (suc room) token.Again at x place e =
    let p = bind_ok (spaced (proof_at room) at) (λ frames. Ok (again frames.0, frames.1)) x e in
    let under = below_takes room (nodes_take room) at p.0 p.1 in
    let path = under.1.path in
    subst (ProofTaken (suc room) (83 ∷ at.rest)) (ok_is (again p.0.0, p.0.1) x p.2)
    record { text_is = ap (λ (t : List ℕ). 83 ∷ t) under.0; printable = record { places = under.1.places; path = omega (arith, path) } }
nodes_take (suc room) token.Byte at x place e = two_take room 66 byte (λ p q. refl) (λ p q h. h) (λ p q. refl) (nodes_take room) at x e
nodes_take (suc room) token.Read at x place e = two_take room 68 read (λ p q. refl) (λ p q h. h) (λ p q. refl) (nodes_take room) at x e

-- ---- lines

pub line_takes : (at : Place) (x : ProofTree × Place) → line_at at ≡ Ok x → (at.rest ≡ proof_line x.0 ++ x.1.rest) × IsPrintableProof 512 x.0
unfolding line_at
line_takes at x e =
    let p = bind_ok (proof_at 512 at) (λ tree. this_at 10 tree.1 >>= λ after. Ok (tree.0, after)) x e in
    let l = bind_ok (this_at 10 p.0.1) (λ after. Ok (p.0.0, after)) x p.2 in
    let proof = from_nodes 512 (nodes_take 512) at p.0 p.1 in
    subst (λ (y : ProofTree × Place). (at.rest ≡ proof_line y.0 ++ y.1.rest) × IsPrintableProof 512 y.0) (ok_is (p.0.0, l.0) x l.2)
    (proof.text_is ∙ ap (λ (t : List ℕ). proof_text p.0.0 ++ t) (this_takes 10 p.0.1 l.0 l.1) ∙ sym (append_assoc (proof_text p.0.0) (10 ∷ []) l.0.rest), proof.printable)

pub lines_take : (most line : ℕ) (rest : List ℕ) (trees : List ProofTree) → lines_in most line rest ≡ Ok trees → (rest ≡ flat_map proof_line trees) × All (IsPrintableProof 512) trees
unfolding lines_in
lines_take most line [] trees e = subst (λ (ts : List ProofTree). ([] ≡ flat_map proof_line ts) × All (IsPrintableProof 512) ts) (ok_is [] trees e) (refl, All-nil (IsPrintableProof 512))
lines_take zero line (b ∷ rest) trees e = absurd cc
lines_take (suc most) line (b ∷ rest) trees e =
    let first = bind_ok (line_at (record { line = line; rest = b ∷ rest })) (λ first. lines_in most first.1.line first.1.rest >>= λ others. Ok (first.0 ∷ others)) trees e in
    let others = bind_ok (lines_in most first.0.1.line first.0.1.rest) (λ others. Ok (first.0.0 ∷ others)) trees first.2 in
    let one = line_takes (record { line = line; rest = b ∷ rest }) first.0 first.1 in
    let more = lines_take most first.0.1.line first.0.1.rest others.0 others.1 in
    subst (λ (ts : List ProofTree). (b ∷ rest ≡ flat_map proof_line ts) × All (IsPrintableProof 512) ts) (ok_is (first.0.0 ∷ others.0) trees others.2)
    (one.0 ∙ ap (λ (t : List ℕ). proof_line first.0.0 ++ t) more.0, All-cons (IsPrintableProof 512) first.0.0 others.0 one.1 more.1)

-- ---- texts

pub pairs_take : (at : Place) (x : ℕ × Place) → pairs_at at ≡ Ok x → (at.rest ≡ codes "airs " ++ (decimal x.0 ++ (10 ∷ x.1.rest))) × (x.0 < 2 ^ 32)
unfolding pairs_at
pairs_take at x e =
    let word = bind_ok (each_at (codes "airs ") at) (number_at 10) x e in
    let number = number_takes 10 word.0 x word.2 in
    (each_takes (codes "airs ") at word.0 word.1 ∙ ap (λ (t : List ℕ). codes "airs " ++ t) number.0, number.1)

-- the front of a text, up to the letter with which its second line begins
pub front_takes : (text : List ℕ) (at : Place) (x : ℕ × Place) → each_at (codes "cert 1\n") (start text) ≡ Ok at → byte_at at ≡ Ok x → text ≡ codes "cert 1\n" ++ (x.0 ∷ x.1.rest)
front_takes text at x version letter = each_takes (codes "cert 1\n") (start text) at version ∙ ap (λ (t : List ℕ). codes "cert 1\n" ++ t) (byte_takes at x letter)

some_from : {A : Type 0} (xs : List A) → 0 < length xs → xs ≡ [] → ⊥
some_from xs some is = let none : length xs ≡ 0 = ap length is in omega (arith, none, some)

pub flaw_takes : (text : List ℕ) (at : Place) (said : Said) → text ≡ codes "cert 1\nf" ++ at.rest → flaw_at at ≡ Ok said → Says text said
unfolding flaw_at
flaw_takes text at said front e =
    let word = bind_ok (each_at (codes "ault ") at) (λ word. number_at 32 word >>= λ pair. fault_at pair.1 >>= λ fault. if length fault.1.rest == 0 then Ok (faulty pair.0 fault.0.0 fault.0.1 fault.0.2) else Err (misplaced fault.1.line)) said e in
    let pair = bind_ok (number_at 32 word.0) (λ pair. fault_at pair.1 >>= λ fault. if length fault.1.rest == 0 then Ok (faulty pair.0 fault.0.0 fault.0.1 fault.0.2) else Err (misplaced fault.1.line)) said word.2 in
    let fault = bind_ok (fault_at pair.0.1) (λ fault. if length fault.1.rest == 0 then Ok (faulty pair.0.0 fault.0.0 fault.0.1 fault.0.2) else Err (misplaced fault.1.line)) said pair.2 in
    let end = test_ok (length fault.0.1.rest == 0) (Ok (faulty pair.0.0 fault.0.0.0 fault.0.0.1 fault.0.0.2)) (misplaced fault.0.1.line) said fault.2 in
    let number = number_takes 32 word.0 pair.0 pair.1 in
    let clash = fault_takes pair.0.1 fault.0 fault.1 in
    let spelled = fault_text fault.0.0.0 fault.0.0.1 fault.0.0.2 in
    let none : fault.0.1.rest ≡ [] = nil_from_length fault.0.1.rest (eqb-true (length fault.0.1.rest) 0 end.0) in
    subst (Says text) (ok_is (faulty pair.0.0 fault.0.0.0 fault.0.0.1 fault.0.0.2) said end.1)
    record {
      printable = (number.1, some_from fault.0.0.0 clash.some, clash.goes_on);
      text_is =
          front
          ∙ ap (λ (t : List ℕ). codes "cert 1\nf" ++ t) (each_takes (codes "ault ") at word.0 word.1)
          ∙ ap (λ (t : List ℕ). codes "cert 1\nfault " ++ t) (number.0 ∙ ap (λ (t : List ℕ). decimal pair.0.0 ++ (32 ∷ t)) (clash.text_is ∙ ap (λ (t : List ℕ). spelled ++ t) none ∙ append-nil spelled));
    }

pub text_takes : (text : List ℕ) (said : Said) → text_said text ≡ Ok said → Says text said
unfolding text_said
text_takes text said e =
    let version = bind_ok (each_at (codes "cert 1\n") (start text)) (λ version. byte_at version >>= λ letter. if letter.0 == 112 then proofs_from letter.1 else if letter.0 == 102 then flaw_at letter.1 else Err (misplaced version.line)) said e in
    let letter = bind_ok (byte_at version.0) (λ letter. if letter.0 == 112 then proofs_from letter.1 else if letter.0 == 102 then flaw_at letter.1 else Err (misplaced version.0.line)) said version.2 in
    let front = front_takes text version.0 letter.0 version.1 letter.1 in
    elim (chosen (letter.0.0 == 112) (proofs_from letter.0.1) (if letter.0.0 == 102 then flaw_at letter.0.1 else Err (misplaced version.0.line)) (Ok said) letter.2) [
      | inl pairs ↦
          let number = bind_ok (pairs_at letter.0.1) (λ number. lines_at number.1 >>= λ trees. Ok (announced number.0 trees)) said pairs.1 in
          let trees = bind_ok (lines_at number.0.1) (λ trees. Ok (announced number.0.0 trees)) said number.2 in
          let many = pairs_take letter.0.1 number.0 number.1 in
          let lines = lines_take (length number.0.1.rest) number.0.1.line number.0.1.rest trees.0 trees.1 in
          subst (Says text) (ok_is (announced number.0.0 trees.0) said trees.2)
          (many.1, lines.1, front ∙ ap (λ (v : ℕ). codes "cert 1\n" ++ (v ∷ letter.0.1.rest)) (eqb-true letter.0.0 112 pairs.0) ∙ ap (λ (t : List ℕ). codes "cert 1\np" ++ t) many.0 ∙ ap (λ (t : List ℕ). codes "cert 1\npairs " ++ (decimal number.0.0 ++ (10 ∷ t))) lines.0)
      | inr fault ↦
          let on = test_ok (letter.0.0 == 102) (flaw_at letter.0.1) (misplaced version.0.line) said fault.1 in
          flaw_takes text letter.0.1 said (front ∙ ap (λ (v : ℕ). codes "cert 1\n" ++ (v ∷ letter.0.1.rest)) (eqb-true letter.0.0 102 on.0)) on.1
    ]
