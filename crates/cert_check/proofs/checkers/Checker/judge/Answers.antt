use Rattle.std.proofs.Common.{◌≡◌, ◌≤◌, ℕ, List, ◌++◌, length, take, refl, ap, subst, ◌∙◌, arith}
use Rattle.std.proofs.lemmas.List.{length-take}
use Rattle.certificate.specs.Reading.{ReadSoFar, bytes_left}
use Rattle.plan_core.specs.PlanContents.{plan_contents}
use Rattle.cert_check.proofs.FedLemmas.{some_judged, fed_on}
use Rattle.cert_check.proofs.checkers.Checker.judge.Goals as goal

pub returns-clause-fed : goal.returns-clause-fed
returns-clause-fed c text fed =
    let plan = plan_contents c.args.plan.now in
    let old = c.args.self in
    let lines = c.in-Some.lines in
    let stop = c.in_ok-stop.stop in
    let at = some_judged plan old.after c.args.standing old.tally fed.before c.requires.standing fed.judged in
    let front : take c.args.end c.deref.result.now ≡ take c.args.end old.held.items = ap (take c.args.end) c.deref.ensures.value in
    let so_far = subst (λ (t : List ℕ). ReadSoFar (fed.before ++ t) at.0 lines) front (c.in-Some.ensures.read fed.before at.0 at.1) in
    let stopped = c.in_ok-stop.ensures.stop (fed.before ++ take c.args.end old.held.items) at.0 so_far at.2 in
    let size : bytes_left lines ≡ length (take c.args.end old.held.items) = ap length (c.in-Some.ensures.left ∙ front) in
    let most = length-take c.args.end old.held.items in
    let less : stop.left ≤ c.args.end = omega (arith, c.in_ok-stop.ensures.left, size, most) in
    fed_on plan old _ text fed c.args.end stop.left stop.standing c.requires.within less refl c.remove_front.ensures stopped.0 stopped.1 stopped.2
