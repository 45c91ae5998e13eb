-- Only private contracts and proofs use this: how much there is left to let go of a proof.
use Rattle.std.specs.Prelude.{ℕ, ◌+◌, ◌*◌}
use Rattle.certificate.specs.Proofs.{ProofTree, part, short, byte, read, again, alike, proof_tree}
use Rattle.certificate.specs.declared.values.Parts.{Parts}
use Rattle.certificate.specs.declared.values.Parts.TheVariants as parts

-- the first part of a node counts twice
abbrev pub weight : ProofTree → ℕ
weight (part place) = 0
weight short = 0
weight (byte first second) = 2 * weight first + weight second + 1
weight (read first second) = 2 * weight first + weight second + 1
weight (again frames) = weight frames + 1
weight alike = 0

abbrev pub node_weight : ProofTree → ProofTree → ℕ
node_weight first second = 2 * weight first + weight second + 1

abbrev pub parts_weight : Parts → ℕ
parts_weight parts.None = 0
parts_weight (parts.One frames) = weight (proof_tree frames.value) + 1
parts_weight (parts.Two first second) = node_weight (proof_tree first.value) (proof_tree second.value)
