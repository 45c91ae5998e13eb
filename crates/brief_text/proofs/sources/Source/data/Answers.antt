use Rattle.std.proofs.Common.{rules, ◌≡◌, sym, ap, ◌∙◌, subst, inr}
use Rattle.std.specs.Prelude.{Ok}
use Rattle.brief_tokens.specs.declared.symbols.Keyword.TheVariants as keywords
use Rattle.brief_tokens.specs.declared.symbols.Symbol.TheVariants as symbols
use Rattle.brief_text.proofs.WordLemmas.{any_is}
use Rattle.std.proofs.lemmas.Result.{err_from_is_err_and}
use Rattle.message_tree.specs.declared.bits.Pattern.{Pattern}
use Rattle.plan_text.specs.Places.{Refuses}
use Rattle.brief_text.specs.Places.{Finds}
use Rattle.brief_text.specs.Standing.{place, draft}
use Rattle.brief_text.specs.Trees.{Said, spelled}
use Rattle.brief_text.proofs.ValueLemmas.{refuses_on, found_at, data_named, value_found, value_missing, data_any}
use Rattle.brief_text.proofs.sources.Source.data.Goals as goal

pub returns-in_err-name-in-Word : goal.returns-in_err-name-in-Word
returns-in_err-name-in-Word c =
    let after = place c.next-token.new.self in
    let g = draft c.args.board.now in
    let p = err_from_is_err_and c.from_residual.result c.from_residual.ensures.1 in
    let named = data_named g c.next-token.result (place c.args.self.now) after c.next-token.ensures.place c.in-Word.word c.in-Word.is (sym c.in_default-data.ensures) in
    rw (p.1, p.2) (subst (λ (r : Finds (Said Pattern)). Refuses r c.in_err-name-in-Word.field-0.0) (sym named) (refuses_on _ (found_at g.bytes) c.in_err-name-in-Word.field-0.0 (c.in_err-name-in-Word.ensures after)))

pub returns-then-not-has_byte : goal.returns-then-not-has_byte
returns-then-not-has_byte c =
    let after = place c.next-token.new.self in
    let g = draft c.args.board.now in
    let named = data_named g c.next-token.result (place c.args.self.now) after c.next-token.ensures.place c.in-Word.word c.in-Word.is (sym c.in_default-data.ensures) in
    inr (named ∙ value_missing _ g.bytes _ c.next-token.result.line after (c.in_ok-name-in-Word.ensures after) (sym c.has_byte.ensures ∙ c.if-not-has_byte.true))

pub returns-else-not-has_byte : goal.returns-else-not-has_byte
returns-else-not-has_byte c =
    let after = place c.next-token.new.self in
    let g = draft c.args.board.now in
    let named = data_named g c.next-token.result (place c.args.self.now) after c.next-token.ensures.place c.in-Word.word c.in-Word.is (sym c.in_default-data.ensures) in
    named ∙ value_found _ g.bytes _ c.next-token.result.line after (c.in_ok-name-in-Word.ensures after) (sym c.has_byte.ensures ∙ c.if-not-has_byte.false)

pub returns-in-Keyword-Any : goal.returns-in-Keyword-Any
returns-in-Keyword-Any c =
    let after = place c.next-token.new.self in
    let g = draft c.args.board.now in
    let is : c.next-token.result.symbol ≡ symbols.Keyword keywords.Any = first_of (cc, search rules) in
    data_any g c.next-token.result (place c.args.self.now) after c.next-token.ensures.place is ∙ ap (λ (p : Pattern). Ok (spelled p, c.next-token.result.line, after)) (any_is c.new.result c.new.ensures)
