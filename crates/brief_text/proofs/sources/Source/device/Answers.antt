use Rattle.std.proofs.Common.{sym, ap, ◌∙◌, subst}
use Rattle.std.proofs.lemmas.Result.{err_from_is_err_and}
use Rattle.plan_text.specs.Places.{Refuses}
use Rattle.brief_text.specs.Places.{Place, token_as, name_in}
use Rattle.brief_text.specs.Standing.{place}
use Rattle.brief_text.proofs.sources.Source.device.Goals as goal

pub returns-in_err-name : goal.returns-in_err-name
returns-in_err-name c =
    let p = err_from_is_err_and c.from_residual.result c.from_residual.ensures.1 in
    rw (p.1, p.2) (subst (λ (at : Place). Refuses (token_as name_in at) c.in_err-name.field-0.0) (sym c.next-token.ensures.place) (c.in_err-name.ensures (place c.next-token.new.self)))

pub returns : goal.returns
returns c = ap (token_as name_in) c.next-token.ensures.place ∙ c.in_ok-name.ensures (place c.next-token.new.self)
