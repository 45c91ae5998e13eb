use Rattle.places.specs.Offers.{Begins}
use Rattle.places.specs.Parts.{OutgoingText}
use Rattle.places.proofs.PartLemmas.{outgoing_after, along}
use Rattle.places.proofs.parts.Part.after.Goals as goal

pub returns-in-Byte : goal.returns-in-Byte
returns-in-Byte c = λ u.
    let begins : Begins (OutgoingText c.in-Byte.outgoing) c.args.item = rw c.in-Byte.is at c.requires in
    rw c.in-Byte.is (along (c.after.ensures u) (outgoing_after c.in-Byte.outgoing c.args.item u begins))
