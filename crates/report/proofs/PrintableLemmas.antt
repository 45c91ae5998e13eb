-- What certify writes can be read: the places of its proofs are those of bits, a proof is at most two nodes deep for each
-- byte of a message, and the wire before a fault goes on.
use Rattle.std.proofs.Common.{◌≡◌, inl, inr, ℕ, zero, suc, ◌+◌, ◌*◌, ◌<◌, ◌≤◌, List, [], ◌∷◌, ◌++◌, length, Some, slice_get, refl, subst, sym, arith, length-append}
use Rattle.message_tree.specs.declared.bits.Address.{Address}
use Rattle.message_tree.specs.declared.bits.Bit.{Bit}
use Rattle.message_tree.specs.declared.bits.Bit.TheVariants.{Zero, One}
use Rattle.message_tree.specs.declared.bits.Pattern.{Pattern}
use Rattle.message_tree.specs.Bits.{SplitAt}
use Rattle.message_tree.specs.Patterns.{pattern_bits}
use Rattle.message_tree.specs.Sizes.{frame_bytes, payload_bytes, tail_bytes}
use Rattle.message_tree.specs.Texts.{Sender, message, interrupt}
use Rattle.message_tree.specs.Trees as tree
use Rattle.message_tree.specs.Trees.{FrameTree, PayloadTree, TailTree}
use Rattle.certificate.specs.Proofs.{ProofTree, part, byte, read, again, alike}
use Rattle.certificate.specs.Proves.{frame_header, header_of}
use Rattle.certificate.specs.Texts.{IsPrintableProof}
use Rattle.pair_walk.proofs.Nodes.{length_of_address}
use Rattle.pair_walk.proofs.Unique.{no_byte_tail, no_tail_byte, no_stop_again, no_again_stop, between_tails}
use Rattle.pair_walk.specs.Canonical.{CanonicalFrames, CanonicalPayloads, CanonicalTails, CanonicalHeaders, IsCanonical}

within : {X : Type 0} (xs : List X) (k : ℕ) (x : X) → slice_get xs k ≡ Some x → k < length xs
within [] k x e = cc
within (y ∷ xs) zero x e = omega arith
within (y ∷ xs) (suc k) x e = let h = within xs k x e in omega arith

split_within : (xs ys : List Bit) (k : ℕ) → SplitAt xs ys k → k < length xs
split_within xs ys k (inl h) = within xs k Zero h.0
split_within xs ys k (inr h) = within xs k One h.0

header_length : (a : Address) (bits : List Bit) (b : Bit) → length bits ≡ 7 → length (bits ++ b ∷ []) ≡ 8
header_length a bits b e = omega (arith, length-append bits (b ∷ []))

pub length_of_header : (f : FrameTree) → length (frame_header f) ≡ 8
length_of_header (tree.write a x r) = header_length a _ Zero (length_of_address a)
length_of_header (tree.read a c x r) = header_length a _ One (length_of_address a)

length_of_pattern : (p : Pattern) → length (pattern_bits p) ≡ 8
unfolding pattern_bits
length_of_pattern p = refl

some_byte : (f : FrameTree) → 1 ≤ frame_bytes f
some_byte (tree.write a x r) = omega arith
some_byte (tree.read a c x r) = omega arith

placed : (k : ℕ) (f g : FrameTree) → SplitAt (frame_header f) (frame_header g) k → IsPrintableProof (2 * frame_bytes f) (part k)
placed k f g s = record { places = omega (arith, split_within (frame_header f) (frame_header g) k s, length_of_header f); path = omega (arith, some_byte f) }

mutual
  pub frames_printable : (p : ProofTree) (f g : FrameTree) → CanonicalFrames p f g → IsPrintableProof (2 * frame_bytes f) p
  frames_printable (part k) (tree.write a x r) g h = placed k (tree.write a x r) g h.splits
  frames_printable (part k) (tree.read a c x r) g h = placed k (tree.read a c x r) g h.splits
  frames_printable (byte p q) (tree.write a x r) (tree.write b y s) h =
      let first = payloads_printable p x y h.1 in
      let second = tails_printable q r s h.2 in
      record { places = (first.places, second.places); path = omega (arith, first.path, second.path) }
  frames_printable (read p q) (tree.read a c x r) (tree.read b d y s) h =
      let first : IsPrintableProof (2 * tail_bytes x + 1) p = elim h.1 [
        | inl m ↦ subst (IsPrintableProof (2 * tail_bytes x + 1)) (sym m.0) (record { places = tt; path = omega arith })
        | inr m ↦ tails_printable p x y m.1
      ] in
      let second = tails_printable q r s h.2 in
      record { places = (first.places, second.places); path = omega (arith, first.path, second.path) }
  frames_printable (byte p q) (tree.write a x r) (tree.read b d y s) h = absurd h
  frames_printable (byte p q) (tree.read a c x r) g h = absurd h
  frames_printable (read p q) (tree.read a c x r) (tree.write b y s) h = absurd h
  frames_printable (read p q) (tree.write a x r) g h = absurd h
  frames_printable _ f g h = absurd h

  pub payloads_printable : (p : ProofTree) (x y : PayloadTree) → CanonicalPayloads p x y → IsPrintableProof (2 * payload_bytes x + 1) p
  payloads_printable (part k) (tree.byte a x r) (tree.byte b y s) h =
      record { places = omega (arith, split_within _ _ k h.splits, length_of_pattern a); path = omega arith }
  payloads_printable (byte p q) (tree.byte a x r) (tree.byte b y s) h =
      let first = payloads_printable p x y h.1 in
      let second = tails_printable q r s h.2 in
      record { places = (first.places, second.places); path = omega (arith, first.path, second.path) }
  payloads_printable p (tree.last r) (tree.last s) h = tails_printable p r s (between_tails p r s h)
  payloads_printable _ (tree.byte a x r) (tree.byte b y s) h = absurd h
  payloads_printable p (tree.byte a x r) (tree.last t) h = absurd (no_byte_tail p a x r t h)
  payloads_printable p (tree.last t) (tree.byte a x r) h = absurd (no_tail_byte p a x r t h)

  pub tails_printable : (p : ProofTree) (r s : TailTree) → CanonicalTails p r s → IsPrintableProof (2 * tail_bytes r + 1) p
  tails_printable alike tree.stop tree.stop h = record { places = tt; path = omega arith }
  tails_printable (again p) (tree.again f) (tree.again g) h =
      let frames = frames_printable p f g h in
      record { places = frames.places; path = omega (arith, frames.path) }
  tails_printable _ tree.stop tree.stop h = absurd h
  tails_printable _ (tree.again f) (tree.again g) h = absurd h
  tails_printable p tree.stop (tree.again g) h = absurd (no_stop_again p g h)
  tails_printable p (tree.again f) tree.stop h = absurd (no_again_stop p f h)

headers_printable : (p : ProofTree) (xs ys : List Bit) → length xs ≡ 8 → CanonicalHeaders p xs ys → IsPrintableProof 1 p
headers_printable (part k) xs ys l h = record { places = omega (arith, split_within xs ys k h.splits, l); path = omega arith }
headers_printable _ xs ys l h = absurd h

more_room : (m n : ℕ) (p : ProofTree) → m ≤ n → IsPrintableProof m p → IsPrintableProof n p
more_room m n p le h = record { places = h.places; path = omega (arith, h.path) }

-- how long the first header of a sender is, and how long its paths are
pub record IsSmall (s : Sender) : Type 0 where
  pub header : length (header_of s) ≡ 8
  pub bytes : (f : FrameTree) → s ≡ message f → frame_bytes f ≤ 256

pub canonical_printable : (p : ProofTree) (s t : Sender) → IsSmall s → IsCanonical p s t → IsPrintableProof 512 p
canonical_printable p (message f) (message g) small h = more_room (2 * frame_bytes f) 512 p (let b = small.bytes f refl in omega arith) (frames_printable p f g h)
canonical_printable p (message f) (interrupt b) small h = more_room 1 512 p (omega arith) (headers_printable p _ _ small.header h)
canonical_printable p (interrupt a) (message g) small h = more_room 1 512 p (omega arith) (headers_printable p _ _ small.header h)
canonical_printable p (interrupt a) (interrupt b) small h = more_room 1 512 p (omega arith) (headers_printable p _ _ small.header h)
