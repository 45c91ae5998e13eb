-- The verdict of a pair: the one proof that it has no fault, or its first fault. The proofs and the order are ours;
-- faults are those of UM10204, 3.1.8, and of claims.
use Rattle.std.specs.Prelude.{ℕ, Option, Some, None, List}
use Rattle.message_tree.specs.declared.items.Item.{Item}
use Rattle.message_tree.specs.declared.items.Kind.{Kind}
use Rattle.message_tree.specs.Texts.{Sender}
use Rattle.certificate.specs.Proofs.{ProofTree, proof_tree}
use Rattle.certificate.specs.declared.values.Fault as value
use Rattle.plan_core.specs.Contents.{Contents}
use Rattle.plan_core.specs.Participants.{sender_at}
use Rattle.plan_core.specs.Lawful.{pair}
use Rattle.plan_core.specs.Faults.{Fault, IsFaulty}
use Rattle.pair_walk.specs.declared.walk_pair.Outcome.{Outcome}
use Rattle.pair_walk.specs.declared.walk_pair.Outcome.TheVariants.{Safe, Unsafe}
use Rattle.pair_walk.specs.Canonical.{IsCanonical}
use Rattle.pair_walk.specs.FirstClash.{InOrder}

-- the fault of the pair alone whose wire comes first
pub record IsFirstFault (plan : Contents) (x y : ℕ) (u : List Item) (j k : Kind) : Type 0 where
  pub fault : Fault plan (pair x y) u x y j k
  pub earliest : (v : List Item) (a b : Kind) → Fault plan (pair x y) v x y a b → InOrder u v

abbrev pub CanonicalBetween : Option Sender → Option Sender → ProofTree → Type 0
CanonicalBetween (Some s) (Some t) p = IsCanonical p s t
CanonicalBetween _ _ p = ⊥

-- the proof of the pair that a verdict gives, and that the pair alone has no fault
pub record IsSafeProof (plan : Contents) (x y : ℕ) (p : ProofTree) : Type 0 where
  pub canonical : CanonicalBetween (sender_at plan x) (sender_at plan y) p
  pub no_fault : IsFaulty plan (pair x y) → ⊥

abbrev pub IsVerdict : Contents → ℕ → ℕ → Outcome → Type 0
IsVerdict plan x y (Safe cert) = IsSafeProof plan x y (proof_tree cert)
IsVerdict plan x y (Unsafe fault) = IsFirstFault plan x y fault.wire.items fault.first fault.second

-- the first fault of the pair alone; or that it has none, and so the proof that its verdict gives
abbrev pub IsFirstFaultIfAny : Contents → ℕ → ℕ → Option value.Fault → Type 0
IsFirstFaultIfAny plan x y (Some fault) = IsFirstFault plan x y fault.wire.items fault.first fault.second
IsFirstFaultIfAny plan x y None = (p : ProofTree) × IsSafeProof plan x y p
