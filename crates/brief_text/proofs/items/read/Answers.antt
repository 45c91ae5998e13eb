use Rattle.std.proofs.lemmas.Result.{err_from_is_err_and}
use Rattle.brief_text.specs.Standing.{draft}
use Rattle.brief_text.proofs.TextLemmas.{brief_refused}
use Rattle.brief_text.proofs.items.read.Goals as goal

pub returns-in_err-read_text-clause-refused : goal.returns-in_err-read_text-clause-refused
returns-in_err-read_text-clause-refused c =
    let p = err_from_is_err_and c.from_residual.result c.from_residual.ensures.1 in
    rw (p.1, p.2) (brief_refused c.args.text.now (draft c.new-board.result) c.in_err-read_text.field-0.0.error c.new-board.ensures c.in_err-read_text.ensures.refused)
