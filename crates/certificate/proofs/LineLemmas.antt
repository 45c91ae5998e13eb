-- Lines of proofs: what is left is refused where what follows its first line is.
use Rattle.std.proofs.Common.{◌≡◌, ℕ, zero, suc, ◌+◌, ◌-◌, ◌<◌, ◌≤◌, List, [], ◌∷◌, length, take, Some, refl, ap, ◌∙◌, arith, length-append}
use Rattle.std.specs.Prelude.{Result, Ok, Err}
use Rattle.std.proofs.Math.Seq.{take-append_seam}
use Rattle.certificate.specs.Proofs.{ProofTree}
use Rattle.certificate.specs.Reader.{FormFault, Place, ◌>>=◌, line_at, lines_in, lines_at}
use Rattle.certificate.specs.Reading.{refusal}
use Rattle.certificate.specs.Texts.{SpellsLine, proof_text, proof_line}
use Rattle.certificate.proofs.TextTakes.{line_takes}

-- ---- how many lines there may be makes no difference, where there may be as many as there are bytes

-- where a byte is left, it begins a further line
pub lines_step : (most line : ℕ) (rest : List ℕ) → 0 < length rest
    → lines_in (suc most) line rest ≡ (line_at (record { line = line; rest = rest }) >>= λ first. lines_in most first.1.line first.1.rest >>= λ others. Ok (first.0 ∷ others))
unfolding lines_in
lines_step most line [] some = absurd (omega arith)
lines_step most line (b ∷ rest) some = refl

same_after : {A B : Type 0} (r : Result A FormFault) (f g : A → Result B FormFault) → ((x : A) → r ≡ Ok x → f x ≡ g x) → (r >>= f) ≡ (r >>= g)
same_after (Ok x) f g h = h x refl
same_after (Err fault) f g h = refl

pub line_shortens : (at : Place) (x : ProofTree × Place) → line_at at ≡ Ok x → length x.1.rest < length at.rest
line_shortens at x e =
    let len = ap length (line_takes at x e).0 ∙ length-append (proof_line x.0) x.1.rest in
    let end = length-append (proof_text x.0) (10 ∷ []) in
    omega (arith, len, end)

lines_same : (m n line : ℕ) (rest : List ℕ) → length rest ≤ m → length rest ≤ n → lines_in m line rest ≡ lines_in n line rest
unfolding lines_in
lines_same m n line [] p q = refl
lines_same zero n line (b ∷ rest) p q = absurd (omega arith)
lines_same (suc m) zero line (b ∷ rest) p q = absurd (omega arith)
lines_same (suc m) (suc n) line (b ∷ rest) p q =
    let at : Place = record { line = line; rest = b ∷ rest } in
    same_after (line_at at) (λ first. lines_in m first.1.line first.1.rest >>= λ others. Ok (first.0 ∷ others)) (λ first. lines_in n first.1.line first.1.rest >>= λ others. Ok (first.0 ∷ others))
    (λ x e. let less = line_shortens at x e in ap (λ (l : Result (List ProofTree) FormFault). l >>= λ others. Ok (x.0 ∷ others)) (lines_same m n x.1.line x.1.rest (omega (arith, less)) (omega (arith, less))))

-- what is made of a value is refused where the value is
pub refusal_made : {A B : Type 0} (r : Result A FormFault) (f : A → B) → refusal (r >>= λ x. Ok (f x)) ≡ refusal r
refusal_made (Ok x) f = refl
refusal_made (Err fault) f = refl

-- lines are refused where what follows the first is
pub lines_go_on : (at : Place) (x : ProofTree × Place) → line_at at ≡ Ok x → refusal (lines_at at) ≡ refusal (lines_at x.1)
lines_go_on at x e =
    let less = line_shortens at x e in
    let more : lines_at at ≡ (lines_in (length at.rest) x.1.line x.1.rest >>= λ others. Ok (x.0 ∷ others)) =
    lines_same (length at.rest) (suc (length at.rest)) at.line at.rest (omega arith) (omega arith) ∙ lines_step (length at.rest) at.line at.rest (omega (arith, less)) ∙ rw e refl in
    ap refusal more ∙ refusal_made (lines_in (length at.rest) x.1.line x.1.rest) (λ others. x.0 ∷ others)
    ∙ ap refusal (lines_same (length at.rest) (length x.1.rest) x.1.line x.1.rest (omega (arith, less)) (omega arith))

-- ---- the next line

-- the bytes of a line that was read
pub line_spelled : (at after : Place) (tree : ProofTree) (bytes : List ℕ) → line_at at ≡ Ok (tree, after) → bytes ≡ take (length at.rest - length after.rest) at.rest → SpellsLine bytes tree
line_spelled at after tree bytes read e =
    let taken = line_takes at (tree, after) read in
    let len : length at.rest ≡ length (proof_line tree) + length after.rest = ap length taken.0 ∙ length-append (proof_line tree) after.rest in
    let n : length at.rest - length after.rest ≡ length (proof_line tree) = omega (arith, len) in
    record {
      printable = taken.1;
      text_is = e ∙ ap (λ (n : ℕ). take n at.rest) n ∙ ap (take (length (proof_line tree))) taken.0 ∙ take-append_seam (proof_line tree) after.rest;
    }

pub lines_refused : (at : Place) (fault : FormFault) → 0 < length at.rest → line_at at ≡ Err fault → refusal (lines_at at) ≡ Some fault
lines_refused at fault some e =
    ap refusal (lines_same (length at.rest) (suc (length at.rest)) at.line at.rest (omega arith) (omega arith) ∙ lines_step (length at.rest) at.line at.rest some) ∙ rw e refl

pub refused_text : {A : Type 0} (r : Result A FormFault) (fault : FormFault) → refusal r ≡ Some fault → r ≡ Err fault
refused_text (Ok x) fault e = cc
refused_text (Err other) fault e = let is : other ≡ fault = cc in ap Err is
