use Rattle.std.proofs.Common.{◌≡◌, ◌++◌, drop, string_bytes}
use Rattle.std.specs.List.{flat_map}
use Rattle.plan_core.specs.PlanContents.{plan_contents}
use Rattle.spellings.specs.Canonical.{controller_line}
use Rattle.spellings.proofs.items.controllers.Given as goal

-- the lines so far and those of what is left are all lines
abbrev pub invariant-loop-k : goal.invariant-loop-k
invariant-loop-k l = string_bytes l.text ++ flat_map (controller_line (plan_contents l.plan)) (drop l.k (plan_contents l.plan).controllers) ≡ string_bytes l.initial.text ++ flat_map (controller_line (plan_contents l.plan)) (plan_contents l.plan).controllers
