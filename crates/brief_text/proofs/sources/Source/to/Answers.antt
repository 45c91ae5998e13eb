use Rattle.std.proofs.Common.{sym, ◌∙◌, subst, inr}
use Rattle.std.proofs.lemmas.Result.{err_from_is_err_and}
use Rattle.message_tree.specs.declared.bits.Address.{Address}
use Rattle.plan_text.specs.Places.{Refuses}
use Rattle.brief_text.specs.Places.{Finds}
use Rattle.brief_text.specs.Standing.{place, draft}
use Rattle.brief_text.specs.Trees.{Said}
use Rattle.brief_text.proofs.ValueLemmas.{refuses_on, found_at, to_named, value_found, value_missing}
use Rattle.brief_text.proofs.sources.Source.to.Goals as goal

pub returns-in_err-name : goal.returns-in_err-name
returns-in_err-name c =
    let after = place c.next-token.new.self in
    let g = draft c.args.board.now in
    let p = err_from_is_err_and c.from_residual.result c.from_residual.ensures.1 in
    let named = to_named g c.next-token.result (place c.args.self.now) after c.next-token.ensures.place c.in-Word.word c.in-Word.is (sym c.in_default-address.ensures) in
    rw (p.1, p.2) (subst (λ (r : Finds (Said Address)). Refuses r c.in_err-name.field-0.0) (sym named) (refuses_on _ (found_at g.devices) c.in_err-name.field-0.0 (c.in_err-name.ensures after)))

pub returns-then-not-has_device : goal.returns-then-not-has_device
returns-then-not-has_device c =
    let after = place c.next-token.new.self in
    let g = draft c.args.board.now in
    let named = to_named g c.next-token.result (place c.args.self.now) after c.next-token.ensures.place c.in-Word.word c.in-Word.is (sym c.in_default-address.ensures) in
    inr (named ∙ value_missing _ g.devices _ c.next-token.result.line after (c.in_ok-name.ensures after) (sym c.has_device.ensures ∙ c.if-not-has_device.true))

pub returns : goal.returns
returns c =
    let after = place c.next-token.new.self in
    let g = draft c.args.board.now in
    let named = to_named g c.next-token.result (place c.args.self.now) after c.next-token.ensures.place c.in-Word.word c.in-Word.is (sym c.in_default-address.ensures) in
    named ∙ value_found _ g.devices _ c.next-token.result.line after (c.in_ok-name.ensures after) (sym c.has_device.ensures ∙ c.if-not-has_device.false)
