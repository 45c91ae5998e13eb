use Rattle.std.proofs.Common.{◌≡◌, drop}
use Rattle.std.specs.List.{list_any}
use Rattle.plan_core.specs.PlanContents.{plan_contents}
use Rattle.spellings.specs.Canonical.{frame_has_range}
use Rattle.spellings.proofs.print.has_range.Given as goal

-- no message so far has one
abbrev pub invariant-loop-k : goal.invariant-loop-k
invariant-loop-k l = list_any (λ message. frame_has_range message.1) (drop l.k (plan_contents l.plan).messages) ≡ list_any (λ message. frame_has_range message.1) (plan_contents l.plan).messages
