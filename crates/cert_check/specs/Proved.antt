-- Which proofs prove the pairs of a plan. What a proof proves of two participants stands with the proofs.
use Rattle.std.specs.Prelude.{◌≡◌, ◌≢◌, ℕ, ◌<◌, List, length, Some, slice_get}
use Rattle.message_tree.specs.Texts.{Sender}
use Rattle.certificate.specs.declared.errors.CertFault.{CertFault}
use Rattle.certificate.specs.declared.errors.CertFault.TheVariants.{Count, Pair}
use Rattle.certificate.specs.Proofs.{ProofTree}
use Rattle.certificate.specs.Proves.{Proves}
use Rattle.plan_core.specs.Contents.{Contents}
use Rattle.plan_core.specs.Pairs.{pairs_of}
use Rattle.plan_core.specs.Participants.{sender_at}

-- the proof proves the two participants of the pair with number i
pub record ProvesPair (plan : Contents) (i : ℕ) (proof : ProofTree) : Type 0 where
  pub x : ℕ
  pub y : ℕ
  pub listed : slice_get (pairs_of plan) i ≡ Some (x, y)
  pub s : Sender
  pub t : Sender
  pub first : sender_at plan x ≡ Some s
  pub second : sender_at plan y ≡ Some t
  pub proved : Proves proof s t

-- each of these proves the pair with its place
abbrev pub AllProve : Contents → List ProofTree → Type 0
AllProve plan proofs = (i : ℕ) (proof : ProofTree) → slice_get proofs i ≡ Some proof → ProvesPair plan i proof

-- as many as there are pairs, and each proves its pair
pub record Certifies (plan : Contents) (proofs : List ProofTree) : Type 0 where
  pub count : length proofs ≡ length (pairs_of plan)
  pub each : AllProve plan proofs

-- the first of these that does not prove its pair stands at place i
pub record FirstUnproved (plan : Contents) (proofs : List ProofTree) (i : ℕ) : Type 0 where
  pub proof : ProofTree
  pub here : slice_get proofs i ≡ Some proof
  pub unproved : ProvesPair plan i proof → ⊥
  pub before : (j : ℕ) (p : ProofTree) → j < i → slice_get proofs j ≡ Some p → ProvesPair plan j p

-- what is wrong with these proofs: their number, or else the first that does not prove its pair
abbrev pub IsWrong : Contents → List ProofTree → CertFault → Type 0
IsWrong plan proofs Count = length proofs ≢ length (pairs_of plan)
IsWrong plan proofs (Pair i) = (length proofs ≡ length (pairs_of plan)) × FirstUnproved plan proofs i
IsWrong plan proofs _ = ⊥
