-- The proof that a verdict gives (ours): the one in which Part stands wherever two headers or bytes have a bit that is
-- known in both and different, and names the first such bit.
use Rattle.std.specs.Prelude.{◌≡◌, ◌⊎◌, List}
use Rattle.message_tree.specs.declared.bits.Bit.{Bit}
use Rattle.message_tree.specs.declared.counts.Count.{Count}
use Rattle.message_tree.specs.Bits.{IsFirstSplit, NeverSplit}
use Rattle.message_tree.specs.Counts.{Meet}
use Rattle.message_tree.specs.Patterns.{pattern_bits}
use Rattle.message_tree.specs.Texts.{Sender, message, write_header, read_header}
use Rattle.message_tree.specs.Trees as tree
use Rattle.message_tree.specs.Trees.{FrameTree, PayloadTree, TailTree}
use Rattle.certificate.specs.Proofs.{ProofTree, part, short, byte, read, again, alike}
use Rattle.certificate.specs.Proves.{frame_header, header_of}

abbrev mutual
  pub CanonicalFrames : ProofTree → FrameTree → FrameTree → Type 0
  CanonicalFrames (part k) f g = IsFirstSplit (frame_header f) (frame_header g) k
  CanonicalFrames (byte p q) (tree.write a x r) (tree.write b y s) =
      NeverSplit (write_header a) (write_header b) × CanonicalPayloads p x y × CanonicalTails q r s
  CanonicalFrames (read p q) (tree.read a c x r) (tree.read b d y s) =
      NeverSplit (read_header a) (read_header b) ×
      (((p ≡ short) × (Meet c d → ⊥)) ⊎ (Meet c d × CanonicalTails p x y)) × CanonicalTails q r s
  CanonicalFrames _ f g = ⊥

  pub CanonicalPayloads : ProofTree → PayloadTree → PayloadTree → Type 0
  CanonicalPayloads (part k) (tree.byte a x r) (tree.byte b y s) = IsFirstSplit (pattern_bits a) (pattern_bits b) k
  CanonicalPayloads (byte p q) (tree.byte a x r) (tree.byte b y s) =
      NeverSplit (pattern_bits a) (pattern_bits b) × CanonicalPayloads p x y × CanonicalTails q r s
  CanonicalPayloads p (tree.last r) (tree.last s) = CanonicalTails p r s
  CanonicalPayloads _ x y = ⊥

  pub CanonicalTails : ProofTree → TailTree → TailTree → Type 0
  CanonicalTails alike tree.stop tree.stop = Unit {0}
  CanonicalTails (again p) (tree.again f) (tree.again g) = CanonicalFrames p f g
  CanonicalTails _ r s = ⊥

-- two reads, from the first byte on: Short exactly where no number of bytes lies in both ranges
abbrev pub CanonicalReads : ProofTree → Count → Count → TailTree → TailTree → Type 0
CanonicalReads p c d x y = ((p ≡ short) × (Meet c d → ⊥)) ⊎ (Meet c d × CanonicalTails p x y)

abbrev pub CanonicalHeaders : ProofTree → List Bit → List Bit → Type 0
CanonicalHeaders (part k) xs ys = IsFirstSplit xs ys k
CanonicalHeaders _ xs ys = ⊥

abbrev pub IsCanonical : ProofTree → Sender → Sender → Type 0
IsCanonical p (message f) (message g) = CanonicalFrames p f g
IsCanonical p s t = CanonicalHeaders p (header_of s) (header_of t)
