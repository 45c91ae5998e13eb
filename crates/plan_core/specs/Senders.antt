-- What a participant sends, as a call answers it.
use Rattle.message_tree.specs.Patterns.{address_bits}
use Rattle.message_tree.specs.Texts.{Sender, message, interrupt}
use Rattle.message_tree.specs.Trees.{frame_tree}
use Rattle.plan_core.specs.declared.senders.Sends.{Sends}
use Rattle.plan_core.specs.declared.senders.Sends.TheVariants.{Message, Interrupt}

abbrev pub what_is_sent : Sends → Sender
what_is_sent (Message f) = message (frame_tree f.now)
what_is_sent (Interrupt a) = interrupt (address_bits a)
