use Rattle.std.proofs.Common.{◌≡◌, ◌<◌, ℕ, Option, None, List, length, ap, ◌∙◌, arith}
use Rattle.std.proofs.lemmas.List.{length-replicate}
use Rattle.plan_core.specs.PlanContents.{plan_contents}
use Rattle.plan_core.specs.Pairs.{pairs_of}
use Rattle.plan_core.proofs.PlanLemmas.{limits_of}
use Rattle.verdicts.proofs.SampleLemmas.{samples_of_none, samples_more, pair_has_place}
use Rattle.verdicts.proofs.samples.samples.Goals as goal

pub loop-i-init : goal.loop-i-init
loop-i-init c =
    let n = c.sender_places.result in
    let samples = c.in_ok-samples.samples.items in
    let sized : length samples ≡ n = ap (λ (ks : List (Option ℕ)). length ks) c.in_ok-samples.ensures ∙ length-replicate n None in
    samples_of_none (plan_contents c.args.plan.now) samples n c.in_ok-samples.ensures sized c.sender_places.ensures

pub index_mut-requires : goal.index_mut-requires
index_mut-requires c =
    let plan = c.args.plan.now in
    let is_pair : c.loop-i.i < length (pairs_of (plan_contents plan)) = omega (arith, c.loop-i-test.true, c.pair_count-i-end.ensures) in
    omega (arith, c.loop-i.samples.ok.0, c.loop-i.invariant.sized, pair_has_place (plan_contents plan) (limits_of plan) c.loop-i.i c.sender_place-place.result is_pair c.sender_place-place.ensures.place)

pub loop-i-preserved : goal.loop-i-preserved
loop-i-preserved c =
    let plan = c.args.plan.now in
    let is_pair : c.loop-i.i < length (pairs_of (plan_contents plan)) = omega (arith, c.loop-i-test.true, c.pair_count-i-end.ensures) in
    let within : c.sender_place-place.result < length c.loop-i.samples.items = omega (arith, c.loop-i.invariant.sized, pair_has_place (plan_contents plan) (limits_of plan) c.loop-i.i c.sender_place-place.result is_pair c.sender_place-place.ensures.place) in
    samples_more (plan_contents plan) c.loop-i.samples.items c.loop-i.i c.sender_place-place.result c.loop-i.invariant is_pair within c.sender_place-place.ensures.place
