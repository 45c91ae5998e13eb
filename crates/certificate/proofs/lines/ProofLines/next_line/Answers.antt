use Rattle.std.proofs.Common.{◌≢◌, length, refl, sym, ◌∙◌, arith}
use Rattle.std.proofs.lemmas.Bool.{eqb-false}
use Rattle.std.proofs.lemmas.Result.{err_from_is_err_and}
use Rattle.certificate.specs.Places.{place}
use Rattle.certificate.specs.Proofs.{proof_tree}
use Rattle.certificate.proofs.LineLemmas.{line_spelled}
use Rattle.certificate.proofs.ReadLemmas.{line_added, line_refused}
use Rattle.certificate.proofs.lines.ProofLines.next_line.Goals as goal

pub returns-in_err-proof-clause-refused : goal.returns-in_err-proof-clause-refused
returns-in_err-proof-clause-refused c =
    let some : length c.args.self.now.source.rest.now ≢ 0 = eqb-false (length c.args.self.now.source.rest.now) 0 (sym c.is_at_end.ensures ∙ c.if-is_at_end.false) in
    let p = err_from_is_err_and c.from_residual-in_err-proof.result c.from_residual-in_err-proof.ensures.1 in
    rw (p.1, p.2) (line_refused c.args.self.now c.in_err-proof.field-0.0 (omega (arith, some)) c.in_err-proof.ensures.read)

pub returns-clause-read : goal.returns-clause-read
returns-clause-read c = line_added c.args.self.now _ (proof_tree c.in_ok-proof.proof) refl refl c.in_ok-proof.ensures.read

pub returns-clause-spelled : goal.returns-clause-spelled
returns-clause-spelled c =
    line_spelled (place c.args.self.now.source) _ (proof_tree c.in_ok-proof.proof) c.until-line.result.now c.in_ok-proof.ensures.read c.until-line.ensures
