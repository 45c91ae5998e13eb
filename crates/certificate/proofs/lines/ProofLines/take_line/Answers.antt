use Rattle.std.proofs.Common.{ℕ, List, ◌++◌, take, refl, ap, sym, ◌∙◌}
use Rattle.std.proofs.lemmas.List.{take-append-drop}
use Rattle.certificate.specs.Reading.{text_left}
use Rattle.certificate.proofs.SameLine.{line_taken}
use Rattle.certificate.proofs.lines.ProofLines.take_line.Goals as goal

pub returns-clause-read : goal.returns-clause-read
returns-clause-read c tree spelled =
    let old = text_left c.args.self.now in
    let bytes = take c.args.size old in
    line_taken c.args.self.now _ bytes tree spelled
    (sym (take-append-drop c.args.size old) ∙ ap (λ (t : List ℕ). bytes ++ t) (sym c.past_line-source.ensures.rest))
    c.past_line-source.ensures.line refl refl
