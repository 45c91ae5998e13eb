use Rattle.std.proofs.lemmas.Result.{err_from_is_err_and}
use Rattle.brief_text.specs.Together.{together}
use Rattle.brief_text.proofs.briefs.Briefs.with_at.Goals as goal

pub returns-in_err-read_text-clause-refused : goal.returns-in_err-read_text-clause-refused
unfolding together
returns-in_err-read_text-clause-refused c =
    let p = err_from_is_err_and c.from_residual.result c.from_residual.ensures.1 in
    rw (p.1, p.2) c.in_err-read_text.ensures.refused
