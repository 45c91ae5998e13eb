use Rattle.plan_core.specs.PlanContents.{plan_contents}
use Rattle.verdicts.specs.Known.{IsMemo, KnowsPairs}
use Rattle.verdicts.proofs.known.known_pairs.Given as goal

abbrev pub invariant-loop-i : goal.invariant-loop-i
invariant-loop-i l = record {
  memo : IsMemo (plan_contents l.plan) l.known.items;
  knows : KnowsPairs (plan_contents l.plan) l.known.items l.i;
}
