use Rattle.std.proofs.Common.{sym, ◌∙◌, ap, is_some}
use Rattle.std.specs.Str.{bytes_eq}
use Rattle.indexmap.specs.IndexMap.{keys}
use Rattle.indexmap.proofs.CallerLemmas.{insert_entry-new}
use Rattle.indexmap.proofs.MapLemmas.{some_index}
use Rattle.plan_core.specs.NameBytes.{name_bytes}
use Rattle.plan_core.proofs.BuildingLemmas.{none_from_is_some}
use Rattle.plan_core.proofs.EntryLemmas.{position-map}
use Rattle.plan_core.proofs.builder.push_entry.Goals as goal

pub returns-clause-added : goal.returns-clause-added
returns-clause-added g c =
    let entries = c.args.entries.now in
    let none = sym (position-map (bytes_eq (name_bytes c.args.name)) name_bytes (keys entries)) ∙ c.requires in
    let absent = none_from_is_some _ (sym (some_index (λ k. bytes_eq (name_bytes c.args.name) (name_bytes k)) entries.entries) ∙ ap is_some none) in
    c.in_ok-insert.ensures.entries ∙ insert_entry-new _ entries c.args.name c.args.value absent
