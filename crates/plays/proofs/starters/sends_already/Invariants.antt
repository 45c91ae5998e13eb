use Rattle.std.proofs.Common.{◌≡◌, false, take}
use Rattle.std.specs.List.{list_any}
use Rattle.plan_core.specs.PlanContents.{plan_contents}
use Rattle.plays.specs.Starters.{shares_controller}
use Rattle.plays.proofs.starters.sends_already.Given as goal

abbrev pub invariant-loop-other : goal.invariant-loop-other
invariant-loop-other l = list_any (λ y. shares_controller (plan_contents l.plan) y l.starter) (take l.other-index l.before) ≡ false
