use Rattle.std.proofs.Common.{◌≡◌, map, take}
use Rattle.plan_core.specs.Participants.{participants_of}
use Rattle.plan_core.specs.PlanContents.{plan_contents}
use Rattle.mending.specs.Numbers.{number_in}
use Rattle.mending.proofs.left.numbers_in.Given as goal

abbrev pub invariant-loop-x : goal.invariant-loop-x
invariant-loop-x l =
    l.numbers.items ≡ map (number_in (plan_contents l.plan) (plan_contents l.other)) (take l.x (participants_of (plan_contents l.other)))
