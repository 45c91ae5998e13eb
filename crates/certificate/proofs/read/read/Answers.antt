use Rattle.std.proofs.Common.{subst}
use Rattle.std.proofs.lemmas.Result.{err_from_is_err_and}
use Rattle.certificate.specs.Reading.{HeadRead}
use Rattle.certificate.proofs.read.read.Goals as goal

pub returns-in_err-all_proofs-in-Proofs-clause-refused : goal.returns-in_err-all_proofs-in-Proofs-clause-refused
returns-in_err-all_proofs-in-Proofs-clause-refused c =
    let begun = subst (HeadRead c.args.text.now) c.in-Proofs.is c.in_ok-lines.ensures.read in
    let p = err_from_is_err_and c.from_residual-in_err-all_proofs-in-Proofs.result c.from_residual-in_err-all_proofs-in-Proofs.ensures.1 in
    rw (p.1, p.2) (c.in_err-all_proofs-in-Proofs.ensures.refused c.args.text.now begun)

pub returns-in_ok-all_proofs-in-Proofs-clause-spelled : goal.returns-in_ok-all_proofs-in-Proofs-clause-spelled
returns-in_ok-all_proofs-in-Proofs-clause-spelled c =
    c.in_ok-all_proofs-in-Proofs.ensures.read c.args.text.now (subst (HeadRead c.args.text.now) c.in-Proofs.is c.in_ok-lines.ensures.read)
