use Rattle.std.proofs.Common.{map, take, string_bytes}
use Rattle.plan_core.specs.Labels.{name_at}
use Rattle.plan_core.specs.PlanContents.{plan_contents}
use Rattle.spellings.specs.Canonical.{Adds}
use Rattle.spellings.proofs.items.message_names.Given as goal

-- the names before this one are written
abbrev pub invariant-loop-message : goal.invariant-loop-message
invariant-loop-message l = Adds (string_bytes l.initial.text) (string_bytes l.text) (map (name_at (plan_contents l.plan).messages) (take l.message-index l.numbers))
