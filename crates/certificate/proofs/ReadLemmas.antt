-- What has been read and what is left are the text, and what is left is refused as the text is.
use Rattle.std.proofs.Common.{◌≡◌, ℕ, suc, ◌+◌, ◌<◌, ◌≤◌, ◌^◌, List, [], ◌∷◌, ◌++◌, length, ap, sym, ◌∙◌, arith, append_assoc, append-nil, codes, length-append}
use Rattle.std.specs.Prelude.{Ok, decimal, flat_map, All}
use Rattle.std.proofs.lemmas.List.Elements.{All-push, All-nil}
use Rattle.std.proofs.lemmas.Grind.{flat_map-append}
use Rattle.certificate.specs.declared.errors.CertError.{CertError}
use Rattle.certificate.specs.declared.errors.CertError.TheVariants.{Wrong, NoMemory}
use Rattle.certificate.specs.declared.errors.CertFault.TheVariants.{Format, Count, TooDeep, Pair}
use Rattle.certificate.specs.declared.lines.ProofLines.{ProofLines}
use Rattle.certificate.specs.declared.lines.Standing.{Standing}
use Rattle.certificate.specs.Places.{place, Refuses}
use Rattle.certificate.specs.Proofs.{ProofTree}
use Rattle.certificate.specs.Reader.{misplaced, too_deep, Place, byte_at, each_at, line_at, lines_at, announced, pairs_at, start, text_said}
use Rattle.certificate.specs.Reading.{ReadSoFar, Stands, AddsTree, RefusedHere, refusal}
use Rattle.certificate.specs.Texts.{IsPrintableProof, proof_text, proofs_text, proof_line}
use Rattle.certificate.proofs.AgainLemmas.{line_again, pairs_again}
use Rattle.certificate.proofs.LineLemmas.{lines_go_on, lines_refused, refusal_made, refused_text}
use Rattle.certificate.proofs.TakesLemmas.{ok_is, byte_takes, each_takes}
use Rattle.certificate.proofs.TextTakes.{line_takes, pairs_take, front_takes}

-- ---- the front of a text

-- what follows the number of proofs begins on the third line
third_line : (text : List ℕ) (version after : Place) (left : ProofLines) → each_at (codes "cert 1\n") (start text) ≡ Ok version → byte_at version ≡ Ok (112, after)
    → pairs_at after ≡ Ok (left.number, place left.source) → left.source.line ≡ 3
third_line text version after left front letter pairs =
    let first : Place = record { line = 2; rest = version.rest } in
    let first_is : first ≡ version = ok_is first version (sym (ap (λ (t : List ℕ). each_at (codes "cert 1\n") (start t)) (each_takes (codes "cert 1\n") (start text) version front)) ∙ front) in
    let second : Place = record { line = 2; rest = after.rest } in
    let second_read : byte_at first ≡ Ok (112, second) = ap (λ (t : List ℕ). byte_at (record { line = 2; rest = t })) (byte_takes version (112, after) letter) in
    let second_is : (112, second) ≡ (112, after) = ok_is (112, second) (112, after) (sym second_read ∙ ap byte_at first_is ∙ letter) in
    let taken = pairs_take after (left.number, place left.source) pairs in
    let third : Place = record { line = 3; rest = left.source.rest.now } in
    let third_read : pairs_at second ≡ Ok (left.number, third) = ap (λ (t : List ℕ). pairs_at (record { line = 2; rest = t })) taken.0 ∙ pairs_again left.number left.source.rest.now taken.1 in
    let third_is : (left.number, third) ≡ (left.number, place left.source) = ok_is (left.number, third) (left.number, place left.source) (sym third_read ∙ ap (λ (y : ℕ × Place). pairs_at y.1) second_is ∙ pairs) in
    sym (ap (λ (y : ℕ × Place). y.1.line) third_is)

pub proofs_begun : (text : List ℕ) (version after : Place) (left : ProofLines) → each_at (codes "cert 1\n") (start text) ≡ Ok version → byte_at version ≡ Ok (112, after)
    → pairs_at after ≡ Ok (left.number, place left.source) → left.seen ≡ 0 → ReadSoFar text [] left
proofs_begun text version after left front letter pairs none =
    let taken = pairs_take after (left.number, place left.source) pairs in
    record {
      printable = All-nil (IsPrintableProof 512);
      counted = sym none;
      placed = third_line text version after left front letter pairs;
      fits = taken.1;
      text_is =
          front_takes text version (112, after) front letter
          ∙ ap (λ (t : List ℕ). codes "cert 1\np" ++ t) taken.0
          ∙ ap (λ (t : List ℕ). codes "cert 1\npairs " ++ t) (sym (append_assoc (decimal left.number) (10 ∷ []) left.source.rest.now));
    }

-- ---- the next line

-- a proof after others
proofs_more : (number : ℕ) (trees : List ProofTree) (tree : ProofTree) → codes "cert 1\n" ++ proofs_text number (trees ++ tree ∷ []) ≡ (codes "cert 1\n" ++ proofs_text number trees) ++ proof_line tree
proofs_more number trees tree =
    let more : flat_map proof_line (trees ++ tree ∷ []) ≡ flat_map proof_line trees ++ proof_line tree =
    flat_map-append proof_line trees (tree ∷ []) ∙ ap (λ (t : List ℕ). flat_map proof_line trees ++ t) (append-nil (proof_line tree)) in
    ap (λ (t : List ℕ). codes "cert 1\npairs " ++ (decimal number ++ (10 ∷ t))) more
    ∙ ap (λ (t : List ℕ). codes "cert 1\npairs " ++ t) (sym (append_assoc (decimal number) (10 ∷ flat_map proof_line trees) (proof_line tree)))

-- a proof ends on the line on which it begins
next_line : (at after : Place) (tree : ProofTree) → line_at at ≡ Ok (tree, after) → after.line ≡ at.line + 1
next_line at after tree read =
    let taken = line_takes at (tree, after) read in
    let next : Place = record { line = at.line + 1; rest = after.rest } in
    let again : line_at at ≡ Ok (tree, next) = ap (λ (t : List ℕ). line_at (record { line = at.line; rest = t })) taken.0 ∙ line_again tree taken.1 at.line after.rest in
    let is : (tree, next) ≡ (tree, after) = ok_is (tree, next) (tree, after) (sym again ∙ read) in
    sym (ap (λ (y : ProofTree × Place). y.1.line) is)

-- one more proof has been read
pub line_added : (old new : ProofLines) (tree : ProofTree) → new.number ≡ old.number → new.seen ≡ old.seen + 1 → line_at (place old.source) ≡ Ok (tree, place new.source) → AddsTree tree old new
line_added old new tree number seen read = λ text trees so_far.
    let taken = line_takes (place old.source) (tree, place new.source) read in
    let line = next_line (place old.source) (place new.source) tree read in
    let len = length-append trees (tree ∷ []) in
    record {
      printable = All-push (IsPrintableProof 512) trees tree so_far.printable taken.1;
      counted = omega (arith, len, so_far.counted);
      placed = omega (arith, len, line, so_far.placed);
      fits = omega (arith, number, so_far.fits);
      text_is =
          so_far.text_is
          ∙ ap (λ (t : List ℕ). (codes "cert 1\n" ++ proofs_text old.number trees) ++ t) taken.0
          ∙ sym (append_assoc (codes "cert 1\n" ++ proofs_text old.number trees) (proof_line tree) new.source.rest.now)
          ∙ ap (λ (t : List ℕ). t ++ new.source.rest.now) (sym (proofs_more old.number trees tree))
          ∙ ap (λ n. (codes "cert 1\n" ++ proofs_text n (trees ++ tree ∷ [])) ++ new.source.rest.now) (sym number);
    }

-- ---- refusals

-- a text is refused where what follows its second line is
past_head : (number : ℕ) (rest : List ℕ) → number < 2 ^ 32 → refusal (text_said (codes "cert 1\npairs " ++ (decimal number ++ (10 ∷ rest)))) ≡ refusal (lines_at (record { line = 3; rest = rest }))
unfolding text_said
past_head number rest fits = rw (pairs_again number rest fits) (refusal_made (lines_at (record { line = 3; rest = rest })) (announced number))

-- lines are refused where what follows these proofs is
past_proofs : (trees : List ProofTree) (line : ℕ) (rest : List ℕ) → All (IsPrintableProof 512) trees
    → refusal (lines_at (record { line = line; rest = flat_map proof_line trees ++ rest })) ≡ refusal (lines_at (record { line = length trees + line; rest = rest }))
past_proofs [] line rest all = let same : line ≡ 0 + line = omega arith in ap (λ (n : ℕ). refusal (lines_at (record { line = n; rest = rest }))) same
past_proofs (tree ∷ trees) line rest all =
    let others = flat_map proof_line trees ++ rest in
    let text = append_assoc (proof_line tree) (flat_map proof_line trees) rest in
    let count : length trees + (line + 1) ≡ length (tree ∷ trees) + line = omega arith in
    ap (λ (t : List ℕ). refusal (lines_at (record { line = line; rest = t }))) text
    ∙ lines_go_on (record { line = line; rest = proof_line tree ++ others }) (tree, record { line = line + 1; rest = others }) (line_again tree (all 0 tree (omega arith)) line others)
    ∙ past_proofs trees (line + 1) rest (λ k d within. all (suc k) d (omega arith))
    ∙ ap (λ (n : ℕ). refusal (lines_at (record { line = n; rest = rest }))) count

-- what is left is refused where and as the text is
pub refused_as : (text : List ℕ) (trees : List ProofTree) (left : ProofLines) → ReadSoFar text trees left → refusal (text_said text) ≡ refusal (lines_at (place left.source))
refused_as text trees left so_far =
    let rest = left.source.rest.now in
    let lines = flat_map proof_line trees in
    let text_is : text ≡ codes "cert 1\npairs " ++ (decimal left.number ++ (10 ∷ (lines ++ rest))) = so_far.text_is ∙ ap (λ (t : List ℕ). codes "cert 1\npairs " ++ t) (append_assoc (decimal left.number) (10 ∷ lines) rest) in
    ap (λ (t : List ℕ). refusal (text_said t)) text_is
    ∙ past_head left.number (lines ++ rest) so_far.fits
    ∙ past_proofs trees 3 rest so_far.printable
    ∙ ap (λ (n : ℕ). refusal (lines_at (record { line = n; rest = rest }))) (sym so_far.placed)

-- the next proof is refused
pub line_refused : (left : ProofLines) (e : CertError) → 0 < length left.source.rest.now → Refuses (line_at (place left.source)) e → RefusedHere left e
line_refused left NoMemory some h = λ text trees so_far. tt
line_refused left (Wrong (Format line)) some h = λ text trees so_far. refused_text (text_said text) (misplaced line) (refused_as text trees left so_far ∙ lines_refused (place left.source) (misplaced line) some h)
line_refused left (Wrong (TooDeep line)) some h = λ text trees so_far. refused_text (text_said text) (too_deep line) (refused_as text trees left so_far ∙ lines_refused (place left.source) (too_deep line) some h)
line_refused left (Wrong Count) some h = absurd h
line_refused left (Wrong (Pair i)) some h = absurd h

-- ---- where reading stands

pub stands_here : (text : List ℕ) (trees : List ProofTree) (left : ProofLines) (standing : Standing) → standing.number ≡ left.number → standing.seen ≡ left.seen → ReadSoFar text trees left
    → (before : List ℕ) × Stands before trees standing × (text ≡ before ++ left.source.rest.now)
stands_here text trees left standing number seen so_far = (
  codes "cert 1\n" ++ proofs_text left.number trees,
  record {
    printable = so_far.printable;
    counted = so_far.counted ∙ sym seen;
    fits = omega (arith, number, so_far.fits);
    text_is = ap (λ n. codes "cert 1\n" ++ proofs_text n trees) (sym number);
  },
  so_far.text_is,
)

lines_long : (trees : List ProofTree) → length trees ≤ length (flat_map proof_line trees)
lines_long [] = omega arith
lines_long (tree ∷ trees) =
    let len = length-append (proof_line tree) (flat_map proof_line trees) in
    let end = length-append (proof_text tree) (10 ∷ []) in
    let others = lines_long trees in
    omega (arith, len, end, others)

-- each proof takes a byte at least
pub seen_short : (before : List ℕ) (trees : List ProofTree) (standing : Standing) → Stands before trees standing → standing.seen + 8 ≤ length before
seen_short before trees standing stands =
    let whole : length before ≡ length (codes "cert 1\npairs " ++ (decimal standing.number ++ (10 ∷ flat_map proof_line trees))) = ap length stands.text_is in
    let head = length-append (codes "cert 1\npairs ") (decimal standing.number ++ (10 ∷ flat_map proof_line trees)) in
    let number = length-append (decimal standing.number) (10 ∷ flat_map proof_line trees) in
    let lines = lines_long trees in
    omega (arith, whole, head, number, lines, stands.counted)
