use Rattle.std.proofs.Common.{refl}
use Rattle.message_tree.specs.declared.items.Item.TheVariants.{Claim}
use Rattle.message_tree.specs.Texts.{InterruptText}
use Rattle.message_tree.proofs.TextLaws.{interrupt_hears_nothing, lawful_interrupt, whole}
use Rattle.message_tree.proofs.TextLengths.{longest_interrupt}
use Rattle.message_tree.proofs.laws.texts_of_interrupts.Goals as goal

pub returns-clause-some : goal.returns-clause-some
returns-clause-some c a = (lawful_interrupt a).some

pub returns-clause-claim : goal.returns-clause-claim
returns-clause-claim c a = (lawful_interrupt a).ends

pub returns-clause-silent : goal.returns-clause-silent
returns-clause-silent c a = interrupt_hears_nothing a

pub returns-clause-whole : goal.returns-clause-whole
returns-clause-whole c a = whole Claim (InterruptText a) refl (lawful_interrupt a).ends

pub returns-clause-longest : goal.returns-clause-longest
returns-clause-longest c a = longest_interrupt a
