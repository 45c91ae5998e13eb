use Rattle.std.proofs.Common.{◌≡◌, false, take}
use Rattle.std.specs.List.{list_any}
use Rattle.plan_core.specs.PlanContents.{plan_contents}
use Rattle.plan_core.specs.Participants.{forbidden}
use Rattle.plays.proofs.starters.forbidden_with.Given as goal

abbrev pub invariant-loop-other : goal.invariant-loop-other
invariant-loop-other l = list_any (λ y. forbidden (plan_contents l.plan) y l.starter) (take l.other-index l.before) ≡ false
