use Rattle.std.proofs.Common.{◌≡◌, ◌<◌, Some, length, slice_get, refl, ap, sym, ◌∙◌, subst, arith}
use Rattle.std.proofs.lemmas.Option.{slice_get_read}
use Rattle.plan_core.proofs.PlanLemmas.{limits_of}
use Rattle.plan_core.specs.PlanContents.{plan_contents}
use Rattle.cert_check.specs.Quick.{ProvesLine}
use Rattle.cert_check.proofs.MemoLemmas.{recalled}
use Rattle.cert_check.proofs.memos.Memo.recall.Goals as goal

pub returns-in-Some : goal.returns-in-Some
returns-in-Some c =
    let plan = plan_contents c.args.plan.now in
    let known = c.args.self.now.lines.items in
    let place = c.sender_place.result in
    let line = c.in-Some.line in
    let within : place < length known = omega (arith, c.sender_place.ensures.within, c.requires.memo.sized) in
    let got : slice_get known place ≡ Some (Some line) = slice_get_read known (length known) place c.index.result.now refl within c.index.ensures ∙ ap Some c.in-Some.is in
    subst (ProvesLine plan c.args.i) (sym c.as_slice.ensures.value)
    (recalled plan (limits_of c.args.plan.now) known c.requires.memo c.args.i place c.requires.within c.sender_place.ensures.place line got)
