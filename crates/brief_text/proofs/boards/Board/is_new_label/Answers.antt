use Rattle.std.proofs.Common.{◌&&◌, not, refl, ap, sym, ◌∙◌}
use Rattle.std.specs.List.{list_any}
use Rattle.brief_text.specs.declared.syntax.Party.{Party}
use Rattle.brief_text.specs.Drafts.{same_side}
use Rattle.brief_text.specs.Standing.{draft, side}
use Rattle.brief_text.proofs.BoardLemmas.{new_label}
use Rattle.brief_text.proofs.boards.Board.is_new_label.Goals as goal

pub returns-then-is_some : goal.returns-then-is_some
returns-then-is_some c =
    let labels = c.args.self.now.labels.items in
    let party = c.args.party.now in
    let some = sym c.is_some.ensures ∙ c.if-is_some.true in
    ap not c.has_label.ensures ∙ sym (new_label (draft c.args.self.now) party labels refl ∙ (λ i. some i && not (list_any (λ (it : Party). same_side (side it) (side party)) labels)))
