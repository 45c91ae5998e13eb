-- What a proof proves of two participants: the cases are these and no others. The proofs are ours; what must not meet is
-- UM10204, 3.1.8.
use Rattle.std.specs.Prelude.{◌≡◌, ◌⊎◌, List, [], ◌∷◌, ◌++◌}
use Rattle.message_tree.specs.declared.bits.Bit.{Bit}
use Rattle.message_tree.specs.declared.bits.Bit.TheVariants.{One}
use Rattle.message_tree.specs.Bits.{SplitAt}
use Rattle.message_tree.specs.Counts.{Meet}
use Rattle.message_tree.specs.Patterns.{pattern_bits}
use Rattle.message_tree.specs.Texts.{Sender, message, interrupt, write_header, read_header}
use Rattle.message_tree.specs.Trees as tree
use Rattle.message_tree.specs.Trees.{FrameTree, PayloadTree, TailTree}
use Rattle.certificate.specs.Proofs.{ProofTree, part, short, byte, read, again, alike}

-- the eight bits of a frame's header
abbrev pub frame_header : FrameTree → List Bit
frame_header (tree.write address acked refused) = write_header address
frame_header (tree.read address count after refused) = read_header address

abbrev mutual
  pub ProvesFrames : ProofTree → FrameTree → FrameTree → Type 0
  ProvesFrames (part k) f g = SplitAt (frame_header f) (frame_header g) k
  ProvesFrames (byte p q) (tree.write a x r) (tree.write b y s) = ProvesPayloads p x y × ProvesTails q r s
  ProvesFrames (read p q) (tree.read a c x r) (tree.read b d y s) =
      (((p ≡ short) × (Meet c d → ⊥)) ⊎ (Meet c d × ProvesTails p x y)) × ProvesTails q r s
  ProvesFrames _ f g = ⊥

  pub ProvesPayloads : ProofTree → PayloadTree → PayloadTree → Type 0
  ProvesPayloads (part k) (tree.byte a x r) (tree.byte b y s) = SplitAt (pattern_bits a) (pattern_bits b) k
  ProvesPayloads (byte p q) (tree.byte a x r) (tree.byte b y s) = ProvesPayloads p x y × ProvesTails q r s
  ProvesPayloads p (tree.last r) (tree.last s) = ProvesTails p r s
  ProvesPayloads _ x y = ⊥

  pub ProvesTails : ProofTree → TailTree → TailTree → Type 0
  ProvesTails alike tree.stop tree.stop = Unit {0}
  ProvesTails (again p) (tree.again f) (tree.again g) = ProvesFrames p f g
  ProvesTails _ r s = ⊥

-- the eight bits of a participant's first header
abbrev pub header_of : Sender → List Bit
header_of (message f) = frame_header f
header_of (interrupt address) = address ++ One ∷ []

-- the place of a known and different bit alone proves a pair that has an interrupt
abbrev pub ProvesHeaders : ProofTree → List Bit → List Bit → Type 0
ProvesHeaders (part k) xs ys = SplitAt xs ys k
ProvesHeaders _ xs ys = ⊥

abbrev pub Proves : ProofTree → Sender → Sender → Type 0
Proves p (message f) (message g) = ProvesFrames p f g
Proves p s t = ProvesHeaders p (header_of s) (header_of t)
