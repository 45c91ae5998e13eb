-- A part, and two that never start together, as the program has them. Only private contracts and proofs use this.
use Rattle.std.specs.Prelude.{ℕ, List, map}
use Rattle.plan_core.specs.NameBytes.{name_bytes}
use Rattle.brief_text.specs.declared.splitting.Apart.{Apart}
use Rattle.brief_text.specs.declared.splitting.Part.{Part}
use Rattle.brief_text.specs.Splitting as spec
use Rattle.brief_text.specs.Standing.{side}

abbrev pub part : Part → spec.Part
part it = record { side = side it.party; messages = map name_bytes it.messages.items }

abbrev pub apart : Apart → List ℕ × List ℕ
apart it = (name_bytes it.first, name_bytes it.second)

abbrev pub names_of : spec.Part × spec.Part → List ℕ × List ℕ
names_of pair = (spec.part_name pair.0, spec.part_name pair.1)
