use Rattle.std.proofs.Common.{rules, ◌≡◌, ◌+◌, ◌-◌, ℕ, suc, true, false, not, inr, ap, sym, ◌∙◌, subst, arith}
use Rattle.std.specs.Prelude.{Result, Ok, Err}
use Rattle.std.proofs.lemmas.Result.{err_from_is_err_and}
use Rattle.plan_text.specs.Places.{Refuses}
use Rattle.plan_text.specs.declared.errors.PlanError.{PlanError}
use Rattle.brief_text.specs.Briefs.{items_in}
use Rattle.brief_text.specs.Drafts.{Draft}
use Rattle.brief_tokens.specs.Reading.{left}
use Rattle.brief_text.specs.Standing.{draft, place}
use Rattle.brief_text.proofs.TextLemmas.{items_after, items_end, items_refuse, items_none, unexpected_first}
use Rattle.brief_text.proofs.items.read_items.Goals as goal

pub loop-init : goal.loop-init
loop-init c =
    let most = c.args.most in
    let whole : most - 0 ≡ most = omega arith in
    ap (λ (n : ℕ). items_in c.args.letters n (draft c.args.board.now) (place c.args.source.now)) whole

pub returns-in_err-read_item : goal.returns-in_err-read_item
returns-in_err-read_item c =
    let most = c.args.most in
    let plan = draft c.loop.board in
    let at = place c.loop.source in
    let rest : most - c.loop.counter ≡ suc (most - (c.loop.counter + 1)) = omega (arith, c.loop-test.true) in
    let p = err_from_is_err_and c.from_residual.result c.from_residual.ensures.1 in
    rw (p.1, p.2) (subst (λ (r : Result Draft PlanError). Refuses r c.in_err-read_item.field-0.0) (ap (λ (n : ℕ). items_in c.args.letters n plan at) (sym rest) ∙ c.loop.invariant)
    (items_refuse c.args.letters (most - (c.loop.counter + 1)) plan at c.in_err-read_item.field-0.0 c.in_err-read_item.ensures.further c.in_err-read_item.ensures.refused))

pub returns-then-not-branch : goal.returns-then-not-branch
returns-then-not-branch c =
    let most = c.args.most in
    let plan = draft c.loop.board in
    let at = place c.loop.source in
    let rest : most - c.loop.counter ≡ suc (most - (c.loop.counter + 1)) = omega (arith, c.loop-test.true) in
    let none : c.in_ok-read_item.field-0 ≡ false = first_of (cc, search rules) in
    let end = c.in_ok-read_item.ensures.more ∙ ap not none in
    sym c.loop.invariant ∙ ap (λ (n : ℕ). items_in c.args.letters n plan at) rest ∙ items_end c.args.letters (most - (c.loop.counter + 1)) plan at end
    ∙ ap (λ (d : Draft). Ok d) (sym (c.in_ok-read_item.ensures.same none))

pub loop-preserved : goal.loop-preserved
loop-preserved c =
    let most = c.args.most in
    let plan = draft c.loop.board in
    let at = place c.loop.source in
    let rest : most - c.loop.counter ≡ suc (most - (c.loop.counter + 1)) = omega (arith, c.loop-test.true) in
    let some : c.in_ok-read_item.field-0 ≡ true = first_of (cc, search rules) in
    let more = c.in_ok-read_item.ensures.more ∙ ap not some in
    sym (items_after c.args.letters (most - (c.loop.counter + 1)) plan at (draft c.read_item.new.board, place c.read_item.new.source) more (c.in_ok-read_item.ensures.read some))
    ∙ ap (λ (n : ℕ). items_in c.args.letters n plan at) (sym rest) ∙ c.loop.invariant

pub returns : goal.returns
returns c =
    let most = c.args.most in
    let plan = draft c.loop.board in
    let at = place c.loop.source in
    let none : most - c.loop.counter ≡ 0 = omega (arith, c.loop-test.false) in
    inr (sym c.loop.invariant ∙ ap (λ (n : ℕ). items_in c.args.letters n plan at) none ∙ items_none c.args.letters plan at
    ∙ ap (λ (e : PlanError). Err e) (unexpected_first c.loop.source.token (left c.loop.source.tokens) ∙ sym c.unexpected.ensures))
