-- What is still to be written of a proof. Only private contracts and proofs use this.
use Rattle.std.specs.Prelude.{ℕ, ◌+◌, List, [], ◌∷◌, ◌++◌, map}
use Rattle.message_tree.specs.Codes.{code}
use Rattle.std.proofs.Common.{Bor}
use Rattle.certificate.specs.declared.values.Cert.{Cert}
use Rattle.certificate.specs.Proofs.{ProofTree, part, short, byte, read, again, alike, proof_tree}
use Rattle.certificate.specs.Texts.{proof_text}

-- the proofs that a list of references has
abbrev pub trees_of : List (Bor Cert) → List ProofTree
trees_of items = map (λ p. proof_tree p.now) items

-- The proofs that are still to be written, each after a space. The last of the list comes first.
abbrev pub pending_text : List ProofTree → List ℕ
pending_text [] = []
pending_text (tree ∷ trees) = pending_text trees ++ (code " " ∷ proof_text tree)

abbrev pub nodes : ProofTree → ℕ
nodes (part place) = 1
nodes short = 1
nodes (byte acked refused) = 1 + (nodes acked + nodes refused)
nodes (read after refused) = 1 + (nodes after + nodes refused)
nodes (again frames) = 1 + nodes frames
nodes alike = 1

abbrev pub pending_nodes : List ProofTree → ℕ
pending_nodes [] = 0
pending_nodes (tree ∷ trees) = nodes tree + pending_nodes trees
