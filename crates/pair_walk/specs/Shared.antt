-- The messages of a plan as hash-consed nodes, in which a node names by its number what follows it, so that trees may
-- share what they have in common. Only private contracts and proofs use what is below `AreNodesOf`.
use Rattle.std.specs.Prelude.{◌≡◌, ℕ, Some, None, List, length, slice_get}
use Rattle.std.specs.Map.{values_of}
use Rattle.message_tree.specs.Texts.{message}
use Rattle.message_tree.specs.Trees.{FrameTree, write, read, PayloadTree, byte, last, TailTree, stop, again}
use Rattle.certificate.specs.Proofs.{ProofTree}
use Rattle.plan_core.specs.Contents.{Contents}
use Rattle.plan_core.specs.Pairs.{pairs_of}
use Rattle.plan_core.specs.Participants.{sender_at}
use Rattle.pair_walk.specs.declared.shared.Node.{Node}
use Rattle.pair_walk.specs.declared.shared.Node.TheVariants as node
use Rattle.pair_walk.specs.declared.shared.SharedNodes.{SharedNodes}
use Rattle.pair_walk.specs.declared.marks.Mark.{Mark}
use Rattle.pair_walk.specs.Marks.{HaveMarks}
use Rattle.pair_walk.specs.Canonical.{CanonicalFrames, CanonicalPayloads, CanonicalTails}
use Rattle.pair_walk.specs.Verdicts.{IsFirstFaultIfAny}

-- the node with this number, and what follows it, are this tree
abbrev mutual
  pub ShowsFrame : List Node → ℕ → FrameTree → Type 0
  ShowsFrame nodes k (write a x r) =
      (i : ℕ) × (j : ℕ) × (slice_get nodes k ≡ Some (node.Write a i j)) × ShowsPayload nodes i x × ShowsTail nodes j r
  ShowsFrame nodes k (read a c x r) =
      (i : ℕ) × (j : ℕ) × (slice_get nodes k ≡ Some (node.Read a c i j)) × ShowsTail nodes i x × ShowsTail nodes j r

  pub ShowsPayload : List Node → ℕ → PayloadTree → Type 0
  ShowsPayload nodes k (byte p x r) =
      (i : ℕ) × (j : ℕ) × (slice_get nodes k ≡ Some (node.Byte p i j)) × ShowsPayload nodes i x × ShowsTail nodes j r
  ShowsPayload nodes k (last t) = ShowsTail nodes k t

  pub ShowsTail : List Node → ℕ → TailTree → Type 0
  ShowsTail nodes k stop = slice_get nodes k ≡ Some node.Stop
  ShowsTail nodes k (again f) = (i : ℕ) × (slice_get nodes k ≡ Some (node.Again i)) × ShowsFrame nodes i f

-- each message of the plan is shown by the number that stands for it, and the marks are these of the nodes
pub record AreNodesOf (plan : Contents) (shared : SharedNodes) : Type 0 where
  pub shown : (m k : ℕ) (f : FrameTree) → slice_get (values_of plan.messages) m ≡ Some f →
      slice_get shared.roots.items m ≡ Some k → ShowsFrame shared.nodes.items k f
  pub marked : HaveMarks shared.nodes.items shared.marks.marks.items

-- whatever stood in the list still stands there
abbrev pub Keeps : List Node → List Node → Type 0
Keeps old new = (k : ℕ) (n : Node) → slice_get old k ≡ Some n → slice_get new k ≡ Some n

-- whatever two trees these numbers show, there is a proof that they never clash
pub record NeverMeet (nodes : List Node) (a b : ℕ) : Type 0 where
  pub frames : (f g : FrameTree) → ShowsFrame nodes a f → ShowsFrame nodes b g → (p : ProofTree) × CanonicalFrames p f g
  pub payloads : (x y : PayloadTree) → ShowsPayload nodes a x → ShowsPayload nodes b y →
      (p : ProofTree) × CanonicalPayloads p x y
  pub tails : (r s : TailTree) → ShowsTail nodes a r → ShowsTail nodes b s → (p : ProofTree) × CanonicalTails p r s

-- wherever these are marks, a and b never clash if these two places don't
abbrev pub MeetsLater : List Mark → ℕ → ℕ → ℕ × ℕ → Type 0
MeetsLater marks a b places =
    (nodes : List Node) → HaveMarks nodes marks → NeverMeet nodes places.0 places.1 → NeverMeet nodes a b

-- this number shows the message that participant x sends
abbrev pub ShowsParticipant : Contents → List Node → ℕ → ℕ → Type 0
ShowsParticipant plan nodes x k = (f : FrameTree) × (sender_at plan x ≡ Some (message f)) × ShowsFrame nodes k f

-- pair i has no fault
abbrev pub NeverFault : Contents → ℕ → Type 0
NeverFault plan i =
    (x y : ℕ) → slice_get (pairs_of plan) i ≡ Some (x, y) → IsFirstFaultIfAny plan x y None

-- so many messages have a number that shows them
pub record AreRoots (plan : Contents) (nodes : List Node) (roots : List ℕ) (n : ℕ) : Type 0 where
  pub sized : length roots ≡ n
  pub shown : (m k : ℕ) (f : FrameTree) → slice_get (values_of plan.messages) m ≡ Some f →
      slice_get roots m ≡ Some k → ShowsFrame nodes k f
