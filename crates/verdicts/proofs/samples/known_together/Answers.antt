use Rattle.std.proofs.Common.{ℕ, Option, List, length, sym, subst, arith}
use Rattle.plan_core.specs.PlanContents.{plan_contents}
use Rattle.plan_core.specs.Pairs.{pairs_of}
use Rattle.plan_core.proofs.PlanLemmas.{limits_of}
use Rattle.verdicts.specs.Samples.{AreSamples}
use Rattle.verdicts.proofs.Few.{places_few}
use Rattle.verdicts.proofs.SampleLemmas.{known_by_samples}
use Rattle.verdicts.proofs.samples.known_together.Goals as goal

pub overflow_cast-places : goal.overflow_cast-places
overflow_cast-places g c =
    let plan = c.args.plan.now in
    omega (arith, c.sender_places-places.ensures, places_few (plan_contents plan) (limits_of plan))

pub share-requires-clause-numbers : goal.share-requires-clause-numbers
share-requires-clause-numbers g c κs within =
    let plan = c.args.plan.now in
    omega (arith, c.sender_places-places.ensures, places_few (plan_contents plan) (limits_of plan))

pub returns : goal.returns
returns g c =
    let plan = c.args.plan.now in
    let known = c.in_ok-known.known in
    let are = subst (λ (xs : List (Option ℕ)). AreSamples (plan_contents plan) xs (length (pairs_of (plan_contents plan)))) (sym c.as_slice-samples.ensures.value) c.in_ok-samples.ensures in
    known_by_samples (plan_contents plan) (limits_of plan) c.as_slice-samples.result.now known.items are (omega (arith, c.in_ok-known.ensures.len, known.ok.0, are.sized, c.sender_places-places.ensures)) (λ k d lt. c.in_ok-known.ensures.each k d (omega (arith, lt, are.sized, c.sender_places-places.ensures)))
