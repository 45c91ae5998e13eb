use Rattle.std.proofs.Common.{inr, ap, sym, ◌∙◌, subst, length}
use Rattle.std.specs.Prelude.{Result}
use Rattle.std.proofs.lemmas.Result.{err_from_is_err_and}
use Rattle.plan_text.specs.Places.{Refuses}
use Rattle.plan_text.specs.declared.errors.PlanError.{PlanError}
use Rattle.brief_text.specs.Briefs.{items_in}
use Rattle.brief_text.specs.Drafts.{Draft}
use Rattle.brief_tokens.specs.Reading.{left, letters_of}
use Rattle.brief_text.specs.Standing.{draft}
use Rattle.brief_text.proofs.TextLemmas.{start, text_from, text_refused}
use Rattle.brief_text.proofs.items.read_text.Goals as goal

pub returns-in_err-tokens-clause-refused : goal.returns-in_err-tokens-clause-refused
returns-in_err-tokens-clause-refused c =
    let p = err_from_is_err_and c.from_residual.result c.from_residual.ensures.1 in
    rw (p.1, p.2) (inr (text_refused c.args.text.now (draft c.args.board.now) c.in_err-tokens.field-0.0.error c.in_err-tokens.ensures.refused))

pub returns-in-Ok-clause-read : goal.returns-in-Ok-clause-read
returns-in-Ok-clause-read c =
    let text = c.args.text.now in
    let plan = draft c.args.board.now in
    text_from text plan (letters_of c.in_ok-tokens.tokens, left c.in_ok-tokens.tokens) c.in_ok-tokens.ensures.rest
    ∙ ap (λ l. items_in l (length text) plan (start (left c.in_ok-tokens.tokens))) (sym c.letters-letters.ensures)
    ∙ sym (ap (items_in c.letters-letters.result (length text) plan) c.new-source.ensures) ∙ c.in-Ok.ensures

pub returns-in-Err-clause-refused : goal.returns-in-Err-clause-refused
returns-in-Err-clause-refused c =
    let text = c.args.text.now in
    let plan = draft c.args.board.now in
    let whole = text_from text plan (letters_of c.in_ok-tokens.tokens, left c.in_ok-tokens.tokens) c.in_ok-tokens.ensures.rest
    ∙ ap (λ l. items_in l (length text) plan (start (left c.in_ok-tokens.tokens))) (sym c.letters-letters.ensures)
    ∙ sym (ap (items_in c.letters-letters.result (length text) plan) c.new-source.ensures) in
    rw c.refusal-refused.ensures (subst (λ (r : Result Draft PlanError). Refuses r c.in-Err.error) (sym whole) c.in-Err.ensures)
