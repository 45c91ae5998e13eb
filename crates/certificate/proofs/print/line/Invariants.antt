use Rattle.std.proofs.Common.{◌≡◌, ◌++◌, map}
use Rattle.std.specs.Prelude.{string_bytes}
use Rattle.certificate.specs.Printing.{pending_text, pending_nodes}
use Rattle.certificate.specs.Proofs.{proof_tree}
use Rattle.certificate.specs.Texts.{proof_text}
use Rattle.certificate.proofs.print.line.Given as goal

-- what is written and what is pending are the proof
abbrev pub invariant-loop-next : goal.invariant-loop-next
invariant-loop-next l =
    string_bytes l.text ++ pending_text (map (λ p. proof_tree p.now) l.pending.items) ≡ string_bytes l.fn.text ++ proof_text (proof_tree l.proof)

abbrev pub decreases-loop-next : goal.decreases-loop-next
decreases-loop-next l = pending_nodes (map (λ p. proof_tree p.now) l.pending.items)
