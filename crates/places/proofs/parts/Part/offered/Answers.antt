use Rattle.message_tree.specs.Trees.{frame_tree, tail_tree}
use Rattle.places.proofs.PartLemmas.{outgoing_begins, outgoing_goes_on, begins_answer, begins_again}
use Rattle.places.proofs.parts.Part.offered.Goals as goal

pub returns-in-Byte-clause-items : goal.returns-in-Byte-clause-items
returns-in-Byte-clause-items c = λ x.
    rw c.in-Byte.is (outgoing_begins c.in-Byte.outgoing c.bit.result x c.bit.ensures)

pub returns-in-Byte-clause-end : goal.returns-in-Byte-clause-end
returns-in-Byte-clause-end c =
    rw c.in-Byte.is (λ h. absurd (outgoing_goes_on c.in-Byte.outgoing c.bit.result c.bit.ensures h), λ e. cc)

pub returns-in-Answer-clause-items : goal.returns-in-Answer-clause-items
returns-in-Answer-clause-items c = λ x.
    rw (c.in-Then.is, c.in-Answer.is) (begins_answer c.in-Answer.acked (tail_tree c.in-Answer.refused.now) x)

pub returns-in-Again-clause-items : goal.returns-in-Again-clause-items
returns-in-Again-clause-items c = λ x.
    rw (c.in-Tail.is, c.in-Again.is) (begins_again (frame_tree c.in-Again.field-0.value) x)
