-- What a certificate says, apart from where it lies in memory: a proof for each pair, or where one pair clashes.
use Rattle.std.specs.Prelude.{ℕ, List, map}
use Rattle.message_tree.specs.declared.items.Item.{Item}
use Rattle.message_tree.specs.declared.items.Kind.{Kind}
use Rattle.certificate.specs.declared.values.CertText.{CertText}
use Rattle.certificate.specs.declared.values.CertText.TheVariants.{Proofs, Flaw}
use Rattle.certificate.specs.Proofs.{ProofTree, proof_tree}

pub data Certificate : Type 0 where
  -- a proof for each pair, in the order of the pairs
  proofs : (trees : List ProofTree) → Certificate
  -- the pair with this number clashes after this wire, and these kinds of item meet there
  flaw : (pair : ℕ) (wire : List Item) (first second : Kind) → Certificate

-- what the program's value says
abbrev pub certificate_of : CertText → Certificate
certificate_of (Proofs trees) = proofs (map proof_tree trees.items)
certificate_of (Flaw pair fault) = flaw pair fault.wire.items fault.first fault.second
