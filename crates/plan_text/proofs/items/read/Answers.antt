use Rattle.std.proofs.Common.{inr, ap, sym, ◌∙◌, subst}
use Rattle.std.specs.Prelude.{Result, Ok}
use Rattle.std.proofs.lemmas.Result.{err_from_is_err_and}
use Rattle.plan_core.specs.Contents.{Contents, empty}
use Rattle.plan_text.specs.declared.errors.PlanError.{PlanError}
use Rattle.plan_text.specs.Places.{place, Refuses}
use Rattle.plan_text.specs.Reader.{items_at, text_read}
use Rattle.plan_text.specs.Tokens.{Tokens}
use Rattle.plan_text.proofs.AgainLemmas.{spot}
use Rattle.plan_text.proofs.TextLemmas.{text_from, text_refused}
use Rattle.plan_text.proofs.items.read.Goals as goal

pub returns-in_err-version-clause-refused : goal.returns-in_err-version-clause-refused
returns-in_err-version-clause-refused c =
    let p = err_from_is_err_and c.from_residual.result c.from_residual.ensures.1 in
    rw (p.1, p.2) (inr (text_refused c.args.text.now c.in_err-version.field-0.0.error c.in_err-version.ensures.refused))

pub returns-in-Ok-clause-read : goal.returns-in-Ok-clause-read
returns-in-Ok-clause-read c =
    let version = c.in_ok-version.version in
    let whole = ap (λ (p : Contents). items_at version p (place c.new.result)) c.new-2.ensures ∙ ap (items_at version empty) c.new.ensures
    ∙ ap (λ (t : Tokens). items_at version empty (spot t 0)) c.in_ok-version.ensures.rest ∙ sym (text_from c.args.text.now version c.in_ok-version.ensures.version) in
    sym whole ∙ c.in-Ok.ensures.read ∙ ap (λ (p : Contents). Ok p) (sym c.finish.ensures)

pub returns-in-Err-clause-refused : goal.returns-in-Err-clause-refused
returns-in-Err-clause-refused c =
    let version = c.in_ok-version.version in
    let whole = ap (λ (p : Contents). items_at version p (place c.new.result)) c.new-2.ensures ∙ ap (items_at version empty) c.new.ensures
    ∙ ap (λ (t : Tokens). items_at version empty (spot t 0)) c.in_ok-version.ensures.rest ∙ sym (text_from c.args.text.now version c.in_ok-version.ensures.version) in
    subst (Refuses (text_read c.args.text.now)) (sym c.refused-refused.ensures) (subst (λ (r : Result Contents PlanError). Refuses r c.in-Err.error) whole c.in-Err.ensures.refused)
