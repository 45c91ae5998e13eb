-- What a comparison of two nodes answers: what it made, which shows the canonical proof, or why it made nothing.
-- Only private contracts and proofs use this.
use Rattle.std.specs.Prelude.{◌≡◌, ℕ, Result, Ok, Err, MatchResult, List, [], ◌++◌, reverse}
use Rattle.message_tree.specs.declared.bits.Address.{Address}
use Rattle.message_tree.specs.declared.counts.Count.{Count}
use Rattle.message_tree.specs.declared.items.Item.{Item}
use Rattle.message_tree.specs.declared.items.Kind.{Kind}
use Rattle.message_tree.specs.declared.items.Kind.TheVariants as kind
use Rattle.message_tree.specs.Bits.{NeverSplit}
use Rattle.message_tree.specs.Patterns.{address_bits}
use Rattle.message_tree.specs.Trees.{FrameTree, PayloadTree, TailTree, stop, again}
use Rattle.message_tree.specs.Texts.{Language, Sender, SenderText, FrameText, PayloadText, TailText, ReadThen}
use Rattle.message_tree.specs.Texts.{read_header}
use Rattle.certificate.specs.declared.values.Fault.{Fault}
use Rattle.certificate.specs.Proofs.{ProofTree}
use Rattle.plan_core.specs.Contents.{Contents}
use Rattle.pair_walk.specs.declared.halts.Halt.{Halt}
use Rattle.pair_walk.specs.declared.halts.Halt.TheVariants.{Clash, NoMemory}
use Rattle.pair_walk.specs.Canonical.{CanonicalFrames, CanonicalReads, CanonicalPayloads, CanonicalTails}
use Rattle.pair_walk.specs.Canonical.{CanonicalHeaders, IsCanonical}
use Rattle.pair_walk.specs.FirstClash.{IsFirstClash}
use Rattle.pair_walk.specs.Verdicts.{IsFirstFault, IsSafeProof}
use Rattle.pair_walk.specs.Wires.{agreed}

-- the first clash of these two, or that memory ran out
abbrev pub Halts : Language → Language → Halt → Type 0
Halts P Q (Clash c) = IsFirstClash P Q (reverse c.back.items) c.first c.second
Halts P Q NoMemory = Unit {0}

-- the same clash, with these items before it
abbrev pub HaltsBehind : List Item → Halt → Halt → Type 0
HaltsBehind items (Clash c) (Clash d) =
    (reverse d.back.items ≡ items ++ reverse c.back.items) × (d.first ≡ c.first) × (d.second ≡ c.second)
HaltsBehind items NoMemory (Clash d) = ⊥
HaltsBehind items halt NoMemory = Unit {0}

-- these kinds meet, with nothing before
abbrev pub ClashesAtOnce : Kind → Kind → Halt → Type 0
ClashesAtOnce j k (Clash c) = (c.back.items ≡ []) × (c.first ≡ j) × (c.second ≡ k)
ClashesAtOnce j k NoMemory = ⊥

abbrev pub kind_of_tail : TailTree → Kind
kind_of_tail stop = kind.Stop
kind_of_tail (again frame) = kind.Again

-- what was made shows a proof, and it is one of these
abbrev pub Shows : {M : Type 0} → (M → ProofTree → Type 0) → (ProofTree → Type 0) → M → Type 0
Shows shown Is made = (p : ProofTree) × shown made p × Is p

module _ {M : Type 0} (shown : M → ProofTree → Type 0) where
  abbrev pub ComparesFrames : FrameTree → FrameTree → Result M Halt → Type 0
  ComparesFrames f g result =
      MatchResult result (Shows shown (λ p. CanonicalFrames p f g)) (Halts (FrameText f) (FrameText g))

  abbrev pub ComparesReads : Count → Count → TailTree → TailTree → Result M Halt → Type 0
  ComparesReads c d x y result =
      MatchResult result (Shows shown (λ p. CanonicalReads p c d x y))
      (Halts (ReadThen c (TailText x)) (ReadThen d (TailText y)))

  abbrev pub ComparesPayloads : PayloadTree → PayloadTree → Result M Halt → Type 0
  ComparesPayloads x y result =
      MatchResult result (Shows shown (λ p. CanonicalPayloads p x y)) (Halts (PayloadText x) (PayloadText y))

  abbrev pub ComparesTails : TailTree → TailTree → Result M Halt → Type 0
  ComparesTails r s result =
      MatchResult result (Shows shown (λ p. CanonicalTails p r s)) (Halts (TailText r) (TailText s))

  abbrev pub ComparesSenders : Sender → Sender → Result M Halt → Type 0
  ComparesSenders s t result =
      MatchResult result (Shows shown (λ p. IsCanonical p s t)) (Halts (SenderText s) (SenderText t))

  -- two read headers part, or these kinds meet after them
  abbrev pub MeetsBehindReads : Address → Address → Kind → Kind → Result M Halt → Type 0
  MeetsBehindReads a b j k (Ok made) = Shows shown (λ p. CanonicalHeaders p (read_header a) (read_header b)) made
  MeetsBehindReads a b j k (Err (Clash c)) =
      NeverSplit (address_bits a) (address_bits b) × (reverse c.back.items ≡ agreed (read_header a) (read_header b)) ×
      (c.first ≡ j) × (c.second ≡ k)
  MeetsBehindReads a b j k (Err NoMemory) = Unit {0}

  -- what was made of a pair that has no fault, or its first fault
  abbrev pub Judges : Contents → ℕ → ℕ → Result M Fault → Type 0
  Judges plan x y (Ok made) = Shows shown (λ p. IsSafeProof plan x y p) made
  Judges plan x y (Err fault) = IsFirstFault plan x y fault.wire.items fault.first fault.second
