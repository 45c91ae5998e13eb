use Rattle.std.proofs.Common.{refl}
use Rattle.message_tree.specs.declared.items.Item.TheVariants.{Stop}
use Rattle.message_tree.specs.Texts.{FrameText}
use Rattle.message_tree.proofs.TextLaws.{lawful_frame, whole}
use Rattle.message_tree.proofs.TextLengths.{longest_frame, most_bits_frame, frame_slots_le}
use Rattle.message_tree.proofs.laws.texts_of_messages.Goals as goal

pub returns-clause-some : goal.returns-clause-some
returns-clause-some c f = (lawful_frame f).some

pub returns-clause-stop : goal.returns-clause-stop
returns-clause-stop c f = (lawful_frame f).ends

pub returns-clause-answers : goal.returns-clause-answers
returns-clause-answers c f = (lawful_frame f).both

pub returns-clause-whole : goal.returns-clause-whole
returns-clause-whole c f = whole Stop (FrameText f) refl (lawful_frame f).ends

pub returns-clause-longest : goal.returns-clause-longest
returns-clause-longest c f = longest_frame f

pub returns-clause-bytes : goal.returns-clause-bytes
returns-clause-bytes c f = most_bits_frame f

pub returns-clause-slots : goal.returns-clause-slots
returns-clause-slots c f = frame_slots_le f
