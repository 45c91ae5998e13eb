use Rattle.std.proofs.Common.{◌≡◌, ◌++◌, drop, string_bytes}
use Rattle.std.specs.List.{flat_map}
use Rattle.plan_core.specs.PlanContents.{plan_contents}
use Rattle.spellings.specs.Canonical.{message_line}
use Rattle.spellings.proofs.print.messages.Given as goal

-- the lines so far and those of what is left are all lines
abbrev pub invariant-loop-k : goal.invariant-loop-k
invariant-loop-k l = string_bytes l.text ++ flat_map message_line (drop l.k (plan_contents l.plan).messages) ≡ string_bytes l.initial.text ++ flat_map message_line (plan_contents l.plan).messages
