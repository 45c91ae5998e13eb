use Rattle.std.proofs.Common.{length, refl, arith}
use Rattle.std.proofs.lemmas.Option.{slice_get_read}
use Rattle.plan_core.proofs.PlanLemmas.{limits_of}
use Rattle.plan_core.specs.PlanContents.{plan_contents}
use Rattle.verdicts.proofs.ProofLines.{line_place, line_made, lines_more, line_kept, line_added, not_empty}
use Rattle.verdicts.proofs.lines.make_line.Goals as goal

pub index-requires : goal.index-requires
index-requires c =
    let plan = c.args.plan.now in
    let lines = c.args.lines.now in
    omega (arith, lines.ok.0, line_place (plan_contents plan) (limits_of plan) lines.items c.requires.lines c.args.i c.sender_place-place.result c.requires.pair c.sender_place-place.ensures.place)

pub index_mut-requires : goal.index_mut-requires
index_mut-requires c =
    let plan = c.args.plan.now in
    let lines = c.args.lines.now in
    omega (arith, lines.ok.0, line_place (plan_contents plan) (limits_of plan) lines.items c.requires.lines c.args.i c.sender_place-place.result c.requires.pair c.sender_place-place.ensures.place)

pub returns-then-not-is_empty-clause-made : goal.returns-then-not-is_empty-clause-made
returns-then-not-is_empty-clause-made c =
    let plan = c.args.plan.now in
    let lines = c.args.lines.now in
    let within = line_place (plan_contents plan) (limits_of plan) lines.items c.requires.lines c.args.i c.sender_place-place.result c.requires.pair c.sender_place-place.ensures.place in
    let got = slice_get_read lines.items (length lines.items) c.sender_place-place.result c.index.result.now refl within c.index.ensures in
    line_made (plan_contents plan) (limits_of plan) lines.items c.requires.lines c.args.i c.sender_place-place.result c.requires.pair c.sender_place-place.ensures.place c.index.result.now got (not_empty c.index.result.now c.is_empty.result c.is_empty.ensures c.if-not-is_empty.true)

pub returns-clause-lines : goal.returns-clause-lines
returns-clause-lines c =
    let plan = c.args.plan.now in
    lines_more (plan_contents plan) (limits_of plan) c.args.lines.now.items c.requires.lines c.args.i c.sender_place-place.result c.requires.pair c.sender_place-place.ensures.place c.in_ok-lines.field-0 c.in_ok-lines.ensures

pub returns-clause-made : goal.returns-clause-made
returns-clause-made c =
    let plan = c.args.plan.now in
    line_added (plan_contents plan) (limits_of plan) c.args.lines.now.items c.requires.lines c.args.i c.sender_place-place.result c.requires.pair c.sender_place-place.ensures.place c.in_ok-lines.field-0 c.in_ok-lines.ensures

pub returns-clause-keeps : goal.returns-clause-keeps
returns-clause-keeps c =
    let plan = c.args.plan.now in
    line_kept (plan_contents plan) (limits_of plan) c.args.lines.now.items c.requires.lines c.args.i c.sender_place-place.result c.requires.pair c.sender_place-place.ensures.place c.in_ok-lines.field-0 c.in_ok-lines.ensures
