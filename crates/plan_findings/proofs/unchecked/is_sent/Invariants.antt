use Rattle.std.proofs.Common.{ℕ, ◌<◌}
use Rattle.plan_findings.proofs.UncheckedLemmas.{Lacks}
use Rattle.plan_core.specs.PlanContents.{plan_contents}
use Rattle.plan_findings.proofs.unchecked.is_sent.Given as goal

-- no controller so far lists it
abbrev pub invariant-loop-c : goal.invariant-loop-c
invariant-loop-c l = (c : ℕ) → c < l.c → Lacks (plan_contents l.plan) l.message c
