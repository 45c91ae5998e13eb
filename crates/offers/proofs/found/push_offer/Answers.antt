use Rattle.std.proofs.Common.{All, IfSome, subst, sym}
use Rattle.std.proofs.lemmas.List.Elements.{All-push}
use Rattle.given_plans.specs.Sources.{bytes_of}
use Rattle.offers.specs.Offered.{IsOffer}
use Rattle.plan_core.specs.PlanContents.{plan_contents}
use Rattle.remedies.specs.Numbers.{group_numbers}
use Rattle.verdicts.specs.Faults.{fault_list}
use Rattle.offers.proofs.found.push_offer.Goals as goal

pub returns-in_ok-push : goal.returns-in_ok-push
returns-in_ok-push c =
    let P = IsOffer (bytes_of c.args.was.texts.now) (plan_contents c.args.was.plan.now) (fault_list c.args.was.faults.now) (group_numbers c.args.groups.now) in
    let this = subst (λ found. IfSome found P) c.in-Some.is c.in_ok-offer.ensures in
    subst (All P) (sym c.in_ok-push.ensures.items) (All-push P c.args.all.now.items c.in-Some.offer c.requires.before this)
