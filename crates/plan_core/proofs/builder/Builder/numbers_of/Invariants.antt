use Rattle.std.proofs.Common.{◌≡◌, map, take}
use Rattle.plan_core.specs.Building.{numbers_of}
use Rattle.plan_core.specs.NameBytes.{name_bytes}
use Rattle.plan_core.specs.BuilderContents.{builder_contents}
use Rattle.plan_core.proofs.builder.Builder.numbers_of.Given as goal

abbrev pub invariant-loop-name : goal.invariant-loop-name
invariant-loop-name l = l.numbers.items ≡ numbers_of (builder_contents l.self) (map name_bytes (take l.name-index l.messages))
