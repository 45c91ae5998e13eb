use Rattle.plan_core.specs.PlanContents.{plan_contents}
use Rattle.verdicts.specs.Lines.{AreLines, HaveLines}
use Rattle.verdicts.proofs.lines.proof_lines.Given as goal

-- the lines of the pairs so far are made
abbrev pub invariant-loop-i : goal.invariant-loop-i
invariant-loop-i l = record {
  lines : AreLines (plan_contents l.plan) l.lines.items;
  made : HaveLines (plan_contents l.plan) l.lines.items l.i;
}
