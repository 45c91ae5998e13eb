-- What is left of what a participant sends, by the part in which it stands. The words are those of the texts.
use Rattle.std.specs.Prelude.{◌≡◌, ℕ, ◌+◌, true, false, List, [], ◌∷◌, drop}
use Rattle.message_tree.specs.declared.bits.Bit.{Bit}
use Rattle.message_tree.specs.declared.bits.Bit.TheVariants.{One}
use Rattle.message_tree.specs.declared.counts.Count.{Count}
use Rattle.message_tree.specs.declared.items.Item.TheVariants.{Sent, Claim}
use Rattle.message_tree.specs.Counts.{InRange}
use Rattle.message_tree.specs.Patterns.{pattern_bits}
use Rattle.message_tree.specs.Texts.{Language, SentThen, HeardThen, AnswerThen, ByteThen, BytesThen, ReadThen, Only, PayloadText, TailText, write_header, read_header}
use Rattle.message_tree.specs.Trees.{payload_tree, tail_tree}
use Rattle.places.specs.declared.bytes.Byte.{Byte}
use Rattle.places.specs.declared.bytes.Byte.TheVariants as byte
use Rattle.places.specs.declared.parts.Acked.{Acked}
use Rattle.places.specs.declared.parts.Acked.TheVariants as acked
use Rattle.places.specs.declared.parts.Then.{Then}
use Rattle.places.specs.declared.parts.Then.TheVariants as then
use Rattle.places.specs.declared.parts.Outgoing.{Outgoing}
use Rattle.places.specs.declared.parts.Incoming.{Incoming}
use Rattle.places.specs.declared.parts.Part.{Part}
use Rattle.places.specs.declared.parts.Part.TheVariants as part

-- the bits of a byte, in the order of sending
abbrev pub bits_of : Byte → List Bit
bits_of (byte.WriteHeader address) = write_header address
bits_of (byte.ReadHeader address) = read_header address
bits_of (byte.Data bits) = pattern_bits bits

-- what follows an acknowledge
abbrev pub AckedText : Acked → Language
AckedText (acked.Payload payload) u = PayloadText (payload_tree payload.now) u
AckedText (acked.Read count after) u = ReadThen count (TailText (tail_tree after.now)) u

-- what follows the bits of a byte
abbrev pub ThenText : Then → Language
ThenText (then.Answer acked refused) u = AnswerThen (AckedText acked) (TailText (tail_tree refused.now)) u
ThenText then.Claim u = Only Claim u

-- the bits that are left, and what follows them
abbrev pub OutgoingText : Outgoing → Language
OutgoingText s u = SentThen (drop s.sent (bits_of s.byte)) (ThenText s.then) u

-- a read goes on of which so many bytes have been read, and all have been acknowledged
abbrev pub ReadOn : Count → ℕ → Language → Language
ReadOn count done P u = (more : ℕ) × InRange count (done + (more + 1)) × BytesThen more (ByteThen One P) u

-- The acknowledge of one byte more: by 0 the controller asks for a further byte, and by 1 it ends the read, where the
-- number of bytes lies in the range (UM10204, 3.1.6).
abbrev pub AcknowledgeThen : Count → ℕ → Language → Language
AcknowledgeThen count done P (Sent false ∷ u) = ReadOn count (done + 1) P u
AcknowledgeThen count done P (Sent true ∷ u) = InRange count (done + 1) × P u
AcknowledgeThen count done P _ = ⊥

-- the bits of a byte that are left to be heard, and its acknowledge
abbrev pub IncomingText : Incoming → Language
IncomingText r u = HeardThen r.left (AcknowledgeThen r.count r.done (TailText (tail_tree r.after.now))) u

abbrev pub PartText : Part → Language
PartText (part.Byte outgoing) u = OutgoingText outgoing u
PartText (part.Then then) u = ThenText then u
PartText (part.Read incoming) u = IncomingText incoming u
PartText (part.Tail tail) u = TailText (tail_tree tail.now) u
PartText part.End u = u ≡ []
