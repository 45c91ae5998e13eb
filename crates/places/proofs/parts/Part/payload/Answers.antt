use Rattle.std.proofs.Common.{ap, sym, ◌∙◌, subst, List, ◌↔◌}
use Rattle.message_tree.specs.declared.items.Item.{Item}
use Rattle.message_tree.specs.declared.tree.Payload.{Payload}
use Rattle.message_tree.specs.Texts.{PayloadText}
use Rattle.message_tree.specs.Trees.{PayloadTree, payload_tree, tail_tree, byte}
use Rattle.places.specs.Parts.{PartText}
use Rattle.places.proofs.parts.Part.payload.Goals as goal

pub returns-in-Byte : goal.returns-in-Byte
returns-in-Byte c =
    let is = ap payload_tree c.in-Byte.is ∙ ap (λ (p : Payload). byte c.in-Byte.bits (payload_tree p) (tail_tree c.in-Byte.refused)) (sym c.deref.ensures) in
    subst (λ (p : PayloadTree). (u : List Item) → PartText c.byte.result u ↔ PayloadText p u) (sym is) c.byte.ensures
