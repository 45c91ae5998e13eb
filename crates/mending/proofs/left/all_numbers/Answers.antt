use Rattle.std.proofs.Common.{length, ap, ◌∙◌, arith}
use Rattle.std.proofs.lemmas.List.{length-map}
use Rattle.std.proofs.lemmas.Option.{slice_get_within}
use Rattle.plan_core.proofs.SenderPlaceLemmas.{pair_within}
use Rattle.plan_core.specs.PlanContents.{plan_contents}
use Rattle.plan_core.specs.Pairs.{pairs_of}
use Rattle.plan_core.specs.Participants.{participants_of}
use Rattle.verdicts.specs.Faults.{fault_list}
use Rattle.mending.proofs.FaultPlaces.{pair_of_fault}
use Rattle.mending.proofs.NumberLemmas.{numbers_more}
use Rattle.mending.specs.Numbers.{number_in}
use Rattle.mending.proofs.left.all_numbers.Goals as goal

pub pair-x-requires : goal.pair-x-requires
pair-x-requires c =
    let other = plan_contents c.args.other.now in
    let it = pair_of_fault other (fault_list c.args.faults.now) c.requires c.loop-k.k c.get-pair.result.0 c.get-pair.result.1.now c.get-pair.ensures in
    slice_get_within (pairs_of other) c.get-pair.result.0 (it.x, it.y) it.at

pub index-requires : goal.index-requires
index-requires c =
    let plan = plan_contents c.args.plan.now in
    let other = plan_contents c.args.other.now in
    let within = pair_within other c.get-pair.result.0 c.pair-x.result.0 c.pair-x.result.1 c.pair-x.ensures in
    omega (arith, within.0, within.1, ap length c.in_ok-numbers.ensures, length-map (participants_of other) (number_in plan other))

pub index-requires-in-loop-k : goal.index-requires-in-loop-k
index-requires-in-loop-k c =
    let plan = plan_contents c.args.plan.now in
    let other = plan_contents c.args.other.now in
    let within = pair_within other c.get-pair.result.0 c.pair-x.result.0 c.pair-x.result.1 c.pair-x.ensures in
    omega (arith, within.1, ap length c.in_ok-numbers.ensures, length-map (participants_of other) (number_in plan other))

pub loop-k-preserved : goal.loop-k-preserved
loop-k-preserved c =
    let plan = plan_contents c.args.plan.now in
    let other = plan_contents c.args.other.now in
    let faults = fault_list c.args.faults.now in
    let found = c.get-pair.result in
    let two = c.pair-x.result in
    c.in_ok-push.ensures.items ∙
    numbers_more plan other faults c.in_ok-numbers.numbers.items c.loop-k.pairs.items c.loop-k.k found.0 found.1.now two.0 two.1 c.index.result.now c.index-in-loop-k.result.now c.in_ok-numbers.ensures c.loop-k.invariant c.get-pair.ensures c.pair-x.ensures c.index.ensures c.index-in-loop-k.ensures
