-- The certificate of verdicts, as far as they have been taken.
use Rattle.std.proofs.Common.{◌≡◌, List, [], ◌∷◌, ◌++◌, length, reverse, refl, ap, sym, ◌∙◌, arith}
use Rattle.certificate.specs.Certificates.{Certificate, proofs, flaw}
use Rattle.std.proofs.lemmas.List.{reverse-append}
use Rattle.certificate.specs.Proofs.{ProofTree, proof_tree}
use Rattle.certificate.specs.declared.values.Cert.{Cert}
use Rattle.certificate.specs.declared.values.Fault.{Fault}
use Rattle.pair_walk.specs.declared.walk_pair.Outcome.TheVariants.{Safe, Unsafe}
use Rattle.pair_walk.specs.declared.walk_pair.Verdict.{Verdict}
use Rattle.verdicts.specs.Certificates.{with_proof, outcome_certificate, certificate_for}

-- these proofs before the others, where those after them are proofs
abbrev pub with_proofs : List ProofTree → Certificate → Certificate
with_proofs [] later = later
with_proofs (tree ∷ trees) later = with_proof tree (with_proofs trees later)

pub with_proofs-push : (trees : List ProofTree) (tree : ProofTree) (later : Certificate) → with_proofs (trees ++ tree ∷ []) later ≡ with_proofs trees (with_proof tree later)
with_proofs-push [] tree later = refl
with_proofs-push (t ∷ trees) tree later = ap (with_proof t) (with_proofs-push trees tree later)

pub with_proofs-none : (trees : List ProofTree) → with_proofs trees (proofs []) ≡ proofs trees
with_proofs-none [] = refl
with_proofs-none (t ∷ trees) = ap (with_proof t) (with_proofs-none trees)

pub with_proofs-flaw : (trees : List ProofTree) (later : Certificate) → ((tree : ProofTree) → with_proof tree later ≡ later) → with_proofs trees later ≡ later
with_proofs-flaw [] later stays = refl
with_proofs-flaw (t ∷ trees) later stays = ap (with_proof t) (with_proofs-flaw trees later stays) ∙ stays t

-- the last verdict taken off
pub taken : (trees : List ProofTree) (before after : List Verdict) (v : Verdict) (whole : Certificate) → before ≡ after ++ v ∷ [] → with_proofs trees (certificate_for (reverse before)) ≡ whole → with_proofs trees (outcome_certificate v.pair v.outcome (certificate_for (reverse after))) ≡ whole
taken trees before after v whole is all =
    sym (ap (λ (vs : List Verdict). with_proofs trees (certificate_for vs)) (ap reverse is ∙ reverse-append after (v ∷ []))) ∙ all

pub taken_safe : (trees : List ProofTree) (after : List Verdict) (v : Verdict) (proof : Cert) (whole : Certificate) → v.outcome ≡ Safe proof → with_proofs trees (outcome_certificate v.pair v.outcome (certificate_for (reverse after))) ≡ whole
    → with_proofs (trees ++ proof_tree proof ∷ []) (certificate_for (reverse after)) ≡ whole
taken_safe trees after v proof whole safe all =
    with_proofs-push trees (proof_tree proof) (certificate_for (reverse after)) ∙ sym (ap (λ o. with_proofs trees (outcome_certificate v.pair o (certificate_for (reverse after)))) safe) ∙ all

pub taken_unsafe : (trees : List ProofTree) (after : List Verdict) (v : Verdict) (fault : Fault) (whole : Certificate) → v.outcome ≡ Unsafe fault → with_proofs trees (outcome_certificate v.pair v.outcome (certificate_for (reverse after))) ≡ whole
    → flaw v.pair fault.wire.items fault.first fault.second ≡ whole
taken_unsafe trees after v fault whole bad all =
    sym (with_proofs-flaw trees (flaw v.pair fault.wire.items fault.first fault.second) (λ tree. refl)) ∙ sym (ap (λ o. with_proofs trees (outcome_certificate v.pair o (certificate_for (reverse after)))) bad) ∙ all

pub none_left : (verdicts : List Verdict) → length verdicts ≡ 0 → verdicts ≡ []
none_left [] h = refl
none_left (v ∷ verdicts) h = absurd (omega arith)
