use Rattle.std.proofs.Common.{All}
use Rattle.given_plans.specs.Sources.{bytes_of}
use Rattle.offers.specs.Offered.{IsOffer}
use Rattle.plan_core.specs.PlanContents.{plan_contents}
use Rattle.remedies.specs.Numbers.{group_numbers}
use Rattle.verdicts.specs.Faults.{fault_list}
use Rattle.offers.proofs.found.push_offers.Given as goal

abbrev pub invariant-loop-proposal : goal.invariant-loop-proposal
invariant-loop-proposal l =
    All (IsOffer (bytes_of l.was.texts.now) (plan_contents l.was.plan.now) (fault_list l.was.faults.now) (group_numbers l.groups)) l.all.items
