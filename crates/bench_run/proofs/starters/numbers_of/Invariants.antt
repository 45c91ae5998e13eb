use Rattle.std.proofs.Common.{map, take}
use Rattle.plan_core.specs.PlanContents.{plan_contents}
use Rattle.bench_run.specs.Starters.{AreNumbersOf}
use Rattle.bench_run.proofs.starters.numbers_of.Given as goal

-- the numbers of the labels so far
abbrev pub invariant-loop-label : goal.invariant-loop-label
invariant-loop-label l = AreNumbersOf (plan_contents l.plan) (map (λ x. x.now) (take l.label-index l.labels)) l.numbers.items
