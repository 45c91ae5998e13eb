use Rattle.std.proofs.Common.{ap, sym, ◌∙◌, subst, List, ◌↔◌}
use Rattle.message_tree.specs.declared.items.Item.{Item}
use Rattle.message_tree.specs.declared.tree.Payload.{Payload}
use Rattle.message_tree.specs.Texts.{FrameText}
use Rattle.message_tree.specs.Trees.{FrameTree, frame_tree, payload_tree, tail_tree, write}
use Rattle.places.specs.Parts.{PartText}
use Rattle.places.proofs.parts.Part.frame.Goals as goal

pub returns-in-Write : goal.returns-in-Write
returns-in-Write c =
    let is = ap frame_tree c.in-Write.is ∙ ap (λ (p : Payload). write c.in-Write.address (payload_tree p) (tail_tree c.in-Write.refused)) (sym c.deref.ensures) in
    subst (λ (f : FrameTree). (u : List Item) → PartText c.byte.result u ↔ FrameText f u) (sym is) c.byte.ensures

pub returns-in-Read : goal.returns-in-Read
returns-in-Read c =
    subst (λ (f : FrameTree). (u : List Item) → PartText c.byte-in-Read.result u ↔ FrameText f u) (sym (ap frame_tree c.in-Read.is)) c.byte-in-Read.ensures
