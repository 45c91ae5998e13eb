-- A message as its nodes make it up, apart from where they lie in memory (UM10204, 3.1.10).
use Rattle.message_tree.specs.declared.bits.Pattern.{Pattern}
use Rattle.message_tree.specs.declared.bits.Address.{Address}
use Rattle.message_tree.specs.declared.counts.Count.{Count}
use Rattle.message_tree.specs.declared.tree.Frame.{Frame}
use Rattle.message_tree.specs.declared.tree.Frame.TheVariants.{Write', Read}
use Rattle.message_tree.specs.declared.tree.Payload.{Payload}
use Rattle.message_tree.specs.declared.tree.Payload.TheVariants.{Byte', Last}
use Rattle.message_tree.specs.declared.tree.Tail.{Tail}
use Rattle.message_tree.specs.declared.tree.Tail.TheVariants.{Stop, Again'}

mutual
  -- a header, and what follows each answer to it
  pub data FrameTree : Type 0 where
    write : (address : Address) (acked : PayloadTree) (refused : TailTree) → FrameTree
    read : (address : Address) (count : Count) (after refused : TailTree) → FrameTree

  -- a byte and what follows each answer to it, or the end of the bytes
  pub data PayloadTree : Type 0 where
    byte : (bits : Pattern) (acked : PayloadTree) (refused : TailTree) → PayloadTree
    last : (tail : TailTree) → PayloadTree

  -- a STOP, or a repeated START and a further frame
  pub data TailTree : Type 0 where
    stop : TailTree
    again : (frame : FrameTree) → TailTree

-- The trees of the program's values. A constructor with a prime, as `Write' address p acked refused`, shows a box: `p` is its
-- address, and the value in it comes next.
abbrev mutual
  pub frame_tree : Frame → FrameTree
  frame_tree (Write' address p acked refused) = write address (payload_tree acked) (tail_tree refused)
  frame_tree (Read address count after refused) = read address count (tail_tree after) (tail_tree refused)

  pub payload_tree : Payload → PayloadTree
  payload_tree (Byte' bits p acked refused) = byte bits (payload_tree acked) (tail_tree refused)
  payload_tree (Last tail) = last (tail_tree tail)

  pub tail_tree : Tail → TailTree
  tail_tree Stop = stop
  tail_tree (Again' p frame) = again (frame_tree frame)
