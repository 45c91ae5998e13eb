use Rattle.std.proofs.Common.{◌<◌, ◌++◌, List, ap, ◌∙◌, length, arith}
use Rattle.plan_core.specs.PlanContents.{plan_contents}
use Rattle.plan_core.specs.Pairs.{pairs_of}
use Rattle.verdicts.specs.declared.known.Known.{Known}
use Rattle.verdicts.specs.Entries.{listing}
use Rattle.verdicts.proofs.FaultLemmas.{lists_more}
use Rattle.verdicts.proofs.KnownLemmas.{place_known}
use Rattle.verdicts.proofs.searches.faults_known.Goals as goal

pub list_if_unsafe-requires : goal.list_if_unsafe-requires
list_if_unsafe-requires c =
    let plan = plan_contents c.args.plan.now in
    let is_pair : c.loop-i.i < length (pairs_of plan) = omega (arith, c.loop-i-test.true, c.pair_count-i-end.ensures) in
    omega (arith, place_known plan c.args.known.items c.loop-i.i c.sender_place.result c.requires is_pair c.sender_place.ensures.place, ap (λ (ks : List Known). length ks) c.deref.ensures.value)

pub loop-i-preserved : goal.loop-i-preserved
loop-i-preserved c =
    let plan = plan_contents c.args.plan.now in
    let known = c.args.known.items in
    let listed = c.loop-i.listed.items in
    let is_pair : c.loop-i.i < length (pairs_of plan) = omega (arith, c.loop-i-test.true, c.pair_count-i-end.ensures) in
    let more = c.in_ok-list_if_unsafe.ensures ∙ ap (λ (ks : List Known). listed ++ listing ks c.loop-i.i c.sender_place.result) c.deref.ensures.value in
    lists_more plan known listed c.list_if_unsafe.new.listed.items c.loop-i.i c.sender_place.result c.requires c.loop-i.invariant is_pair c.sender_place.ensures.place more
