-- What the bytes of a certificate come to, for a plan.
use Rattle.std.specs.Prelude.{◌≡◌, ◌⊎◌, ℕ, List}
use Rattle.certificate.specs.declared.errors.CertFault.{CertFault}
use Rattle.certificate.specs.declared.errors.CertFault.TheVariants.{Pair}
use Rattle.certificate.specs.Certificates.{Certificate, proofs, flaw}
use Rattle.certificate.specs.Refusals.{First}
use Rattle.certificate.specs.Texts as certificates
use Rattle.plan_core.specs.Contents.{Contents}
use Rattle.cert_check.specs.declared.answers.Answer.{Answer}
use Rattle.cert_check.specs.declared.answers.Answer.TheVariants.{Safe, Unsafe, Wrong}
use Rattle.cert_check.specs.PairFaults.{IsPairFault}
use Rattle.cert_check.specs.Proved.{Certifies, IsWrong}

-- what is wrong with a certificate of this plan: the number of its proofs, the first proof that does not prove its pair,
-- or a fault that its pair does not have
abbrev pub Contradicts : Contents → Certificate → CertFault → Type 0
Contradicts plan (proofs trees) fault = IsWrong plan trees fault
Contradicts plan (flaw pair wire first second) fault =
    (IsPairFault plan pair wire first second → ⊥) × (fault ≡ Pair pair)

-- the answer for this plan and this certificate
abbrev pub Judges : Contents → Certificate → Answer → Type 0
Judges plan (proofs trees) Safe = Certifies plan trees
Judges plan (flaw pair wire first second) Unsafe = IsPairFault plan pair wire first second
Judges plan value (Wrong fault) = Contradicts plan value fault
Judges plan value _ = ⊥

-- the bytes spell a certificate that is answered so
abbrev pub IsJudged : Contents → List ℕ → Answer → Type 0
IsJudged plan bytes answer = (value : Certificate) × certificates.Spells bytes value × Judges plan value answer

-- the answer for this plan and the bytes of a certificate, which are refused by themselves, or spell one
abbrev pub IsAnswer : Contents → List ℕ → Answer → Type 0
IsAnswer plan bytes (Wrong fault) = First bytes fault ⊎ IsJudged plan bytes (Wrong fault)
IsAnswer plan bytes answer = IsJudged plan bytes answer
