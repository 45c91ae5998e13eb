use Rattle.std.proofs.Common.{ℕ, ◌<◌}
use Rattle.plan_findings.specs.Unchecked.{IsListed}
use Rattle.plan_core.specs.PlanContents.{plan_contents}
use Rattle.plan_findings.proofs.unchecked.is_all_checked.Given as goal

-- some controller lists each message so far
abbrev pub invariant-loop-message : goal.invariant-loop-message
invariant-loop-message l = (m : ℕ) → m < l.message → IsListed (plan_contents l.plan) m
