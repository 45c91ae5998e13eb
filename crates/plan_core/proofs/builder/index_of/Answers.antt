use Rattle.std.proofs.Common.{sym, ◌∙◌}
use Rattle.std.specs.Str.{bytes_eq}
use Rattle.plan_core.specs.NameBytes.{name_bytes}
use Rattle.indexmap.specs.IndexMap.{keys}
use Rattle.plan_core.proofs.EntryLemmas.{position-map}
use Rattle.plan_core.proofs.builder.index_of.Goals as goal

pub returns-in-Some : goal.returns-in-Some
returns-in-Some g c = sym c.in-Some.is ∙ c.get_index_of.ensures.index ∙ sym (position-map (bytes_eq (name_bytes c.args.name.now)) name_bytes (keys c.args.entries.now))

pub returns-in-None : goal.returns-in-None
returns-in-None g c = sym c.in-None.is ∙ c.get_index_of.ensures.index ∙ sym (position-map (bytes_eq (name_bytes c.args.name.now)) name_bytes (keys c.args.entries.now))
