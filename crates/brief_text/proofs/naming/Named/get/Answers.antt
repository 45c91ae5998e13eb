use Rattle.std.proofs.Common.{sym, ◌∙◌}
use Rattle.std.specs.Str.{bytes_eq}
use Rattle.plan_core.specs.NameBytes.{name_bytes}
use Rattle.brief_text.proofs.NamingLemmas.{lookup_seen}
use Rattle.brief_text.proofs.naming.Named.get.Goals as goal

pub returns : goal.returns
returns t c =
    let h = c.copied.ensures in
    let g = c.get.ensures in
    h ∙ g.value ∙ sym (lookup_seen (bytes_eq (name_bytes c.args.name.now)) c.args.self.now.entries.entries)
