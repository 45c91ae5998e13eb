use Rattle.std.proofs.Common.{◌<◌, ◌++◌, All, vec_len}
use Rattle.plan_core.specs.PlanContents.{plan_contents}
use Rattle.verdicts.specs.Texts.{lines_at, joined}
use Rattle.verdicts.proofs.ProofLines.{HasProofs}
use Rattle.verdicts.proofs.certificates.lines_of_proofs.Given as goal

-- the lines at the places so far are those of the proofs so far
abbrev pub invariant-loop-i : goal.invariant-loop-i
invariant-loop-i l = record {
  held : All (λ place. place < vec_len l.distinct) l.order.items;
  proofs : HasProofs (plan_contents l.plan) l.head.items (l.head.items ++ joined (lines_at l.distinct.items l.order.items)) l.i;
}
