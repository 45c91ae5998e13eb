use Rattle.std.proofs.Common.{◌+◌, ◌*◌, Some, length, slice_get, refl, ap, sym, ◌∙◌, set, arith}
use Rattle.std.proofs.lemmas.Option.{slice_get_read}
use Rattle.order.proofs.MemoLemmas.{at_place, place_inside, memo_more}
use Rattle.plan_core.proofs.PlanLemmas.{limits_of}
use Rattle.plan_core.specs.PlanContents.{plan_contents}
use Rattle.order.proofs.known.Known.at.Goals as goal

pub index-requires : goal.index-requires
index-requires c =
    let plan = plan_contents c.args.plan.now in
    let memo = c.args.self.now in
    omega (arith, memo.found.ok.0, at_place plan c.sender.result c.sender-2.result memo.senders c.args.x c.args.y c.sender.ensures.value c.sender-2.ensures.value c.requires.memo.senders, place_inside plan (limits_of c.args.plan.now) memo c.args.x c.args.y c.requires.memo c.requires.x_within c.requires.y_within)

pub returns-in-Some-clause-outcomes : goal.returns-in-Some-clause-outcomes
returns-in-Some-clause-outcomes c =
    let plan = plan_contents c.args.plan.now in
    let memo = c.args.self.now in
    let at = at_place plan c.sender.result c.sender-2.result memo.senders c.args.x c.args.y c.sender.ensures.value c.sender-2.ensures.value c.requires.memo.senders in
    let inside = place_inside plan (limits_of c.args.plan.now) memo c.args.x c.args.y c.requires.memo c.requires.x_within c.requires.y_within in
    let got = slice_get_read memo.found.items (length memo.found.items) (c.sender.result * memo.senders + c.sender-2.result) c.index.result.now refl (omega (arith, at, inside)) c.index.ensures in
    c.requires.memo.right c.args.x c.args.y c.in-Some.known c.requires.x_within c.requires.y_within
    (ap (slice_get memo.found.items) (sym at) ∙ (got ∙ ap Some c.in-Some.is))

pub index_mut-requires : goal.index_mut-requires
index_mut-requires c =
    let plan = plan_contents c.args.plan.now in
    let memo = c.args.self.now in
    omega (arith, memo.found.ok.0, at_place plan c.sender.result c.sender-2.result memo.senders c.args.x c.args.y c.sender.ensures.value c.sender-2.ensures.value c.requires.memo.senders, place_inside plan (limits_of c.args.plan.now) memo c.args.x c.args.y c.requires.memo c.requires.x_within c.requires.y_within)

pub returns-clause-memo : goal.returns-clause-memo
returns-clause-memo c =
    let plan = plan_contents c.args.plan.now in
    let memo = c.args.self.now in
    let o = c.of_pair-outcomes.result in
    let at = at_place plan c.sender.result c.sender-2.result memo.senders c.args.x c.args.y c.sender.ensures.value c.sender-2.ensures.value c.requires.memo.senders in
    let of = c.of_pair-outcomes.ensures in
    memo_more plan (limits_of c.args.plan.now) memo _ c.args.x c.args.y o c.requires.memo c.requires.x_within c.requires.y_within
    (record { both = of.both; first = of.first; second = of.second }) refl (ap (λ k. set memo.found.items k (Some o)) at)
