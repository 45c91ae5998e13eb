use Rattle.std.proofs.Common.{sym, ◌∙◌, ap, map}
use Rattle.std.proofs.lemmas.List.{map_push}
use Rattle.std.specs.Str.{bytes_eq}
use Rattle.indexmap.proofs.CallerLemmas.{insert_entry-new}
use Rattle.plan_core.specs.NameBytes.{name_bytes}
use Rattle.brief_text.proofs.NamingLemmas.{seen, lookup_seen}
use Rattle.brief_text.proofs.naming.Named.add.Goals as goal

pub returns : goal.returns
returns t c =
    let entries = c.args.self.now.entries in
    let absent = sym (lookup_seen (bytes_eq (name_bytes c.args.name)) entries.entries) ∙ c.requires in
    ap (map seen) (c.in_ok-insert.ensures.entries ∙ insert_entry-new _ entries c.args.name c.args.value absent) ∙ map_push seen entries.entries (c.args.name, c.args.value)
