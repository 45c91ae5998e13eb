use Rattle.std.proofs.Common.{ℕ, List, [], map}
use Rattle.certificate.specs.Proofs.{proof_tree}
use Rattle.certificate.specs.Reading.{ReadSoFar, bytes_left}
use Rattle.certificate.proofs.read.all_proofs.Given as goal

-- the proofs so far have been read
abbrev pub invariant-loop-proofs : goal.invariant-loop-proofs
invariant-loop-proofs l = (text : List ℕ) → ReadSoFar text [] l.fn.lines → ReadSoFar text (map proof_tree l.proofs.items) l.lines

abbrev pub decreases-loop-proofs : goal.decreases-loop-proofs
decreases-loop-proofs l = bytes_left l.lines
