-- What a participant sends, by number. Only AreLaid, private contracts and proofs use this.
use Rattle.std.specs.Prelude.{◌≡◌, List}
use Rattle.message_tree.specs.Patterns.{address_bits}
use Rattle.message_tree.specs.Texts.{Sender, message, interrupt}
use Rattle.message_tree.specs.Trees.{FrameTree}
use Rattle.arbitration.specs.declared.senders.Sent.{Sent}
use Rattle.arbitration.specs.declared.senders.Sent.TheVariants.{Message, Interrupt}
use Rattle.arbitration.specs.Frames.{Names}

-- it stands for this sender
abbrev pub IsSent : List FrameTree → Sent → Sender → Type 0
IsSent known (Message n) (message f) = Names known n f
IsSent known (Message n) (interrupt bits) = ⊥
IsSent known (Interrupt a) (message f) = ⊥
IsSent known (Interrupt a) (interrupt bits) = bits ≡ address_bits a
