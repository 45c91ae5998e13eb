-- Two reads, from the first byte on. Only private contracts and proofs use this.
use Rattle.std.specs.Prelude.{◌≡◌, ◌⊎◌}
use Rattle.message_tree.specs.declared.counts.Count.{Count}
use Rattle.message_tree.specs.Counts.{Meet}
use Rattle.message_tree.specs.Trees.{TailTree}
use Rattle.certificate.specs.Proofs.{ProofTree, short}
use Rattle.certificate.specs.Proves.{ProvesTails}

-- Short where no number of bytes lies in both ranges, else a proof of what follows
abbrev pub ProvesReads : ProofTree → Count → Count → TailTree → TailTree → Type 0
ProvesReads p c d x y = ((p ≡ short) × (Meet c d → ⊥)) ⊎ (Meet c d × ProvesTails p x y)
