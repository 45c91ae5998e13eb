use Rattle.std.proofs.Common.{not, ap, sym, ◌∙◌, subst}
use Rattle.std.specs.Prelude.{Result, Ok}
use Rattle.std.proofs.lemmas.Result.{err_from_is_err_and}
use Rattle.plan_core.specs.Contents.{Contents}
use Rattle.plan_text.specs.declared.errors.PlanError.{PlanError}
use Rattle.plan_text.specs.declared.versions.Version.{Version}
use Rattle.plan_text.specs.Places.{so_far, ahead, Refuses}
use Rattle.plan_text.specs.Reader.{items_at}
use Rattle.plan_text.proofs.ItemLemmas.{item_takes, items_after, items_end, items_refuse}
use Rattle.plan_text.proofs.items.Reader.items.Goals as goal

pub returns-in_err-item-clause-refused : goal.returns-in_err-item-clause-refused
returns-in_err-item-clause-refused c =
    let old = c.loop.self in
    let p = err_from_is_err_and c.from_residual.result c.from_residual.ensures.1 in
    rw (p.1, p.2) (subst (λ (r : Result Contents PlanError). Refuses r c.in_err-item.field-0.0) c.loop.invariant (items_refuse old.version (so_far old) (ahead old) c.in_err-item.field-0.0 c.in_err-item.ensures.further c.in_err-item.ensures.refused))

pub loop-smaller : goal.loop-smaller
loop-smaller c =
    let old = c.loop.self in
    let taken = item_takes old.version (so_far old) (ahead old) (so_far c.item.new.self, ahead c.item.new.self) (c.in_ok-item.ensures.read c.if-branch.true) in
    taken.smaller

pub loop-preserved : goal.loop-preserved
loop-preserved c =
    let old = c.loop.self in
    let further = c.in_ok-item.ensures.more ∙ ap not c.if-branch.true in
    let after = items_after old.version (so_far old) (ahead old) (so_far c.item.new.self, ahead c.item.new.self) further (c.in_ok-item.ensures.read c.if-branch.true) in
    ap (λ (v : Version). items_at v (so_far c.item.new.self) (ahead c.item.new.self)) c.in_ok-item.ensures.version ∙ sym after ∙ c.loop.invariant

pub returns-clause-read : goal.returns-clause-read
returns-clause-read c =
    let old = c.loop.self in
    let end = c.in_ok-item.ensures.more ∙ ap not c.if-branch.false in
    sym c.loop.invariant ∙ items_end old.version (so_far old) (ahead old) end
    ∙ ap (λ (p : Contents). Ok p) (sym (c.in_ok-item.ensures.same c.if-branch.false))
