use Rattle.std.proofs.Common.{◌≡◌, ◌++◌, take, string_bytes}
use Rattle.plan_core.specs.PlanContents.{plan_contents}
use Rattle.run_parts.specs.Lines.{labels}
use Rattle.run_parts.proofs.lines.push_labels.Given as goal

-- the labels so far
abbrev pub invariant-loop-p : goal.invariant-loop-p
invariant-loop-p l = string_bytes l.lines ≡ string_bytes l.fn.lines ++ labels (plan_contents l.plan) (take l.p-index l.participants)
