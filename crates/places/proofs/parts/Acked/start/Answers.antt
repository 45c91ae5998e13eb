use Rattle.message_tree.specs.Texts.{TailText}
use Rattle.message_tree.specs.Trees.{tail_tree}
use Rattle.places.proofs.PartLemmas.{first_byte}
use Rattle.places.proofs.parts.Acked.start.Goals as goal

pub returns-in-Read : goal.returns-in-Read
returns-in-Read c = λ u.
    rw c.in-Read.is (first_byte c.in-Read.count (TailText (tail_tree c.in-Read.after.now)) u)
