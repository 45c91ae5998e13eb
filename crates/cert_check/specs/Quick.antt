-- Proofs that stand at the front of a text. Only private contracts and proofs use this.
use Rattle.std.specs.Prelude.{◌≡◌, ℕ, ◌<◌, ◌≤◌, List, ◌∷◌, ◌++◌, length, take}
use Rattle.message_tree.specs.Codes.{code}
use Rattle.certificate.specs.Proofs.{ProofTree}
use Rattle.certificate.specs.Texts.{IsPrintableProof, SpellsLine, proof_text}
use Rattle.plan_core.specs.Contents.{Contents}
use Rattle.cert_check.specs.Proved.{ProvesPair}

-- the text is a proof of which this holds, with at most so many nodes on a path, and then the rest
pub record Begins (room : ℕ) (P : ProofTree → Type 0) (text rest : List ℕ) : Type 0 where
  pub tree : ProofTree
  pub printable : IsPrintableProof room tree
  pub text_is : text ≡ proof_text tree ++ rest
  pub proves : P tree

-- the same after a space
abbrev pub BeginsSpaced : ℕ → (ProofTree → Type 0) → List ℕ → List ℕ → Type 0
BeginsSpaced room P text rest = (inner : List ℕ) × (text ≡ code " " ∷ inner) × Begins room P inner rest

-- two proofs, the second after a space
abbrev pub BeginsTwo : ℕ → (ProofTree → Type 0) → (ProofTree → Type 0) → List ℕ → List ℕ → Type 0
BeginsTwo room P Q text rest = (between : List ℕ) × Begins room P text between × BeginsSpaced room Q between rest

-- these bytes are the line of a proof of the pair with this number
abbrev pub ProvesLine : Contents → ℕ → List ℕ → Type 0
ProvesLine plan i bytes = (tree : ProofTree) × SpellsLine bytes tree × ProvesPair plan i tree

-- the first so many bytes of the text are
pub record IsProvedLine (plan : Contents) (i size : ℕ) (text : List ℕ) : Type 0 where
  pub some : 0 < size
  pub within : size ≤ length text
  pub proved : ProvesLine plan i (take size text)
