use Rattle.std.proofs.Common.{◌≡◌, [], map, take, drop}
use Rattle.plan_core.specs.Building.{list_refusal}
use Rattle.plan_core.specs.NameBytes.{name_bytes}
use Rattle.plan_core.specs.BuilderContents.{builder_contents}
use Rattle.plan_core.proofs.builder.Builder.list_refusal.Given as goal

abbrev pub invariant-loop-i : goal.invariant-loop-i
invariant-loop-i l = list_refusal (builder_contents l.self) (map name_bytes (take l.i l.messages)) (map name_bytes (drop l.i l.messages)) ≡ list_refusal (builder_contents l.self) [] (map name_bytes l.messages)
