-- The certificate that a table gives: a proof for each pair, or the fault of the first pair that is not safe.
use Rattle.std.specs.Prelude.{◌≡◌, ℕ, List, [], ◌∷◌}
use Rattle.certificate.specs.Certificates.{Certificate, proofs, flaw}
use Rattle.certificate.specs.Proofs.{ProofTree, proof_tree}
use Rattle.certificate.specs.Texts.{cert_text}
use Rattle.pair_walk.specs.declared.walk_pair.Outcome.{Outcome}
use Rattle.pair_walk.specs.declared.walk_pair.Outcome.TheVariants.{Safe, Unsafe}
use Rattle.pair_walk.specs.declared.walk_pair.Verdict.{Verdict}
use Rattle.plan_core.specs.Contents.{Contents}
use Rattle.verdicts.specs.Verdicts.{AreVerdicts}

-- a proof before the others, where those after it are proofs
abbrev pub with_proof : ProofTree → Certificate → Certificate
with_proof tree (proofs trees) = proofs (tree ∷ trees)
with_proof tree (flaw pair wire first second) = flaw pair wire first second

abbrev pub outcome_certificate : ℕ → Outcome → Certificate → Certificate
outcome_certificate pair (Safe proof) later = with_proof (proof_tree proof) later
outcome_certificate pair (Unsafe fault) later = flaw pair fault.wire.items fault.first fault.second

abbrev pub certificate_for : List Verdict → Certificate
certificate_for [] = proofs []
certificate_for (v ∷ verdicts) = outcome_certificate v.pair v.outcome (certificate_for verdicts)

-- the text of the certificate for the verdicts of the plan's pairs
pub record IsCertificateText (plan : Contents) (text : List ℕ) : Type 0 where
  pub verdicts : List Verdict
  pub right : AreVerdicts plan verdicts
  pub written : text ≡ cert_text (certificate_for verdicts)
