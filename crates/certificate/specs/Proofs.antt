-- A proof as its nodes make it up, apart from where they lie in memory. Its form is ours.
use Rattle.std.specs.Prelude.{ℕ}
use Rattle.certificate.specs.declared.values.Cert.{Cert}
use Rattle.certificate.specs.declared.values.Cert.TheVariants.{Part, Short, Byte', Read', Again', Alike}

pub data ProofTree : Type 0 where
  part : (place : ℕ) → ProofTree
  short : ProofTree
  byte : (acked refused : ProofTree) → ProofTree
  read : (after refused : ProofTree) → ProofTree
  again : (frames : ProofTree) → ProofTree
  alike : ProofTree

-- the tree of the program's value
abbrev pub proof_tree : Cert → ProofTree
proof_tree (Part k) = part k
proof_tree Short = short
proof_tree (Byte' a p b q) = byte (proof_tree p) (proof_tree q)
proof_tree (Read' a p b q) = read (proof_tree p) (proof_tree q)
proof_tree (Again' a p) = again (proof_tree p)
proof_tree Alike = alike
