use Rattle.std.proofs.Common.{ap, sym, ◌∙◌}
use Rattle.message_tree.specs.declared.bits.Address.{Address}
use Rattle.plan_core.specs.NameBytes.{name_bytes}
use Rattle.brief_text.specs.declared.syntax.Value.{Value}
use Rattle.brief_text.specs.Drafts.{any_address}
use Rattle.brief_text.specs.Drafts.{value_or}
use Rattle.brief_text.specs.Standing.{entries_of, said}
use Rattle.brief_text.proofs.BoardLemmas.{no_value}
use Rattle.brief_text.proofs.BoardLemmas.{any_address_is}
use Rattle.brief_text.proofs.boards.Board.address.Goals as goal

pub returns-in-None : goal.returns-in-None
returns-in-None c =
    let entries = entries_of c.args.self.now.devices in
    sym (any_address_is c.new.result c.new.ensures)
    ∙ sym (no_value any_address entries (name_bytes c.in-Named.named.name) (sym c.in-None.ensures))
    ∙ sym (ap (λ (v : Value Address). value_or any_address entries (said v)) c.in-Named.is)
