use Rattle.std.proofs.Common.{length, refl, arith}
use Rattle.std.proofs.lemmas.Option.{slice_get_read}
use Rattle.plan_core.proofs.PlanLemmas.{limits_of}
use Rattle.plan_core.specs.PlanContents.{plan_contents}
use Rattle.verdicts.proofs.KnownLemmas.{place_of_pair, learned, was_known}
use Rattle.verdicts.proofs.known.learn.Goals as goal

pub index-requires : goal.index-requires
index-requires c =
    let plan = c.args.plan.now in
    let known = c.args.known.now in
    omega (arith, known.ok.0, place_of_pair (plan_contents plan) (limits_of plan) known.items c.requires.memo c.args.i c.sender_place-place.result c.requires.pair c.sender_place-place.ensures.place)

pub index_mut-requires : goal.index_mut-requires
index_mut-requires c =
    let plan = c.args.plan.now in
    let known = c.args.known.now in
    omega (arith, known.ok.0, place_of_pair (plan_contents plan) (limits_of plan) known.items c.requires.memo c.args.i c.sender_place-place.result c.requires.pair c.sender_place-place.ensures.place)

pub returns-in_ok-first_fault_by : goal.returns-in_ok-first_fault_by
returns-in_ok-first_fault_by c =
    let plan = c.args.plan.now in
    let now = learned (plan_contents plan) (limits_of plan) c.args.known.now.items c.requires.memo c.args.i c.sender_place-place.result c.requires.pair c.sender_place-place.ensures.place c.known_by.result c.in_ok-first_fault_by.field-0 c.known_by.ensures c.in_ok-first_fault_by.ensures in
    record { memo = now.0; knows = now.1; keeps = now.2 }

pub returns-in_default : goal.returns-in_default
returns-in_default c =
    let plan = c.args.plan.now in
    let known = c.args.known.now in
    let within = place_of_pair (plan_contents plan) (limits_of plan) known.items c.requires.memo c.args.i c.sender_place-place.result c.requires.pair c.sender_place-place.ensures.place in
    let got = slice_get_read known.items (length known.items) c.sender_place-place.result c.index.result.now refl within c.index.ensures in
    record {
      memo = c.requires.memo;
      knows = was_known (plan_contents plan) (limits_of plan) known.items c.requires.memo c.args.i c.sender_place-place.result c.requires.pair c.sender_place-place.ensures.place c.index.result.now got c.in_default.not-NotYet;
      keeps = λ j h. h;
    }
