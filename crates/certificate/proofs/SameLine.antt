-- A line with the bytes of one that was read is read as that one.
use Rattle.std.proofs.Common.{◌≡◌, ℕ, ◌+◌, List, ◌++◌, ap, sym, ◌∙◌}
use Rattle.std.specs.Prelude.{Ok}
use Rattle.certificate.specs.declared.lines.ProofLines.{ProofLines}
use Rattle.certificate.specs.Places.{place}
use Rattle.certificate.specs.Proofs.{ProofTree}
use Rattle.certificate.specs.Reader.{line_at}
use Rattle.certificate.specs.Reading.{AddsTree}
use Rattle.certificate.specs.Texts.{SpellsLine, proof_line}
use Rattle.certificate.proofs.AgainLemmas.{line_again}
use Rattle.certificate.proofs.ReadLemmas.{line_added}

pub line_taken : (old new : ProofLines) (bytes : List ℕ) (tree : ProofTree) → SpellsLine bytes tree → old.source.rest.now ≡ bytes ++ new.source.rest.now
    → new.source.line ≡ old.source.line + 1 → new.number ≡ old.number → new.seen ≡ old.seen + 1 → AddsTree tree old new
line_taken old new bytes tree spelled rest line number seen =
    let left = new.source.rest.now in
    let text : old.source.rest.now ≡ proof_line tree ++ left = rest ∙ ap (λ (b : List ℕ). b ++ left) spelled.text_is in
    let read : line_at (place old.source) ≡ Ok (tree, place new.source) =
    ap (λ (t : List ℕ). line_at (record { line = old.source.line; rest = t })) text
    ∙ line_again tree spelled.printable old.source.line left
    ∙ ap (λ (n : ℕ). Ok (tree, record { line = n; rest = left })) (sym line) in
    line_added old new tree number seen read
