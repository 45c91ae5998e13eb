use Rattle.std.proofs.Common.{◌≡◌, ◌≤◌, ℕ, List, [], length, take, Option, refl, ap, subst, arith}
use Rattle.std.specs.Prelude.{IfSome}
use Rattle.std.proofs.lemmas.List.{length-take}
use Rattle.plan_core.specs.PlanContents.{plan_contents}
use Rattle.cert_check.specs.declared.checkers.Checker.{Checker}
use Rattle.cert_check.specs.declared.checkers.Stop.{Stop}
use Rattle.cert_check.specs.Fed.{IsFed, StandsIn}
use Rattle.cert_check.proofs.FedLemmas.{fed_begun, if_ok}
use Rattle.cert_check.proofs.checkers.Checker.begin.Goals as goal
use Rattle.cert_check.proofs.checkers.Checker.begin.Goals.{After-judge}

begun : (c : After-judge) (text : List ℕ) → IsFed (plan_contents c.args.plan.now) c.args.self text
    → IsFed (plan_contents c.args.plan.now) (record { held = c.remove_front.new.bytes; after = Rattle.std.proofs.Common.Some c.in-Some.stop.standing; tally = c.args.self.tally; memo = c.args.self.memo; waits = c.args.self.waits }) text
begun c text fed =
    let old = c.args.self in
    let stop = c.in-Some.stop in
    let front : take c.args.end c.deref-2.result.now ≡ take c.args.end old.held.items = ap (take c.args.end) c.deref-2.ensures.value in
    let at = subst (λ (o : Option Stop). IfSome o (λ s. StandsIn (take c.args.end c.deref-2.result.now) [] s.standing s.left)) c.in-Some.is c.in_ok-stop.ensures.stands in
    let left = subst (λ (o : Option Stop). IfSome o (λ s. s.left ≤ length (take c.args.end c.deref-2.result.now))) c.in-Some.is c.in_ok-stop.ensures.left in
    let most = length-take c.args.end c.deref-2.result.now in
    fed_begun (plan_contents c.args.plan.now) old _ text fed c.args.end stop.left stop.standing c.requires.within (omega (arith, left, most)) refl c.remove_front.ensures c.requires.none refl
    (subst (λ (t : List ℕ). StandsIn t [] stop.standing stop.left) front at)

pub returns-in-Some-clause-fed : goal.returns-in-Some-clause-fed
returns-in-Some-clause-fed c = if_ok _ (λ (checker : Checker). (text : List ℕ) → IsFed (plan_contents c.args.plan.now) c.args.self text → IsFed (plan_contents c.args.plan.now) checker text) c.judge.result (λ checker on text fed. on text (begun c text fed)) c.judge.ensures.fed

pub returns-in-Some-clause-too_long : goal.returns-in-Some-clause-too_long
returns-in-Some-clause-too_long c = λ is text fed. c.judge.ensures.too_long is text (begun c text fed)
