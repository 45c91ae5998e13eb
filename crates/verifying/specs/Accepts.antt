-- What the bytes of a plan and the bytes of a certificate come to.
use Rattle.std.specs.Prelude.{◌≡◌, ◌⊎◌, ℕ, List, Result, Ok, Err}
use Rattle.message_tree.specs.declared.items.Item.{Item}
use Rattle.message_tree.specs.declared.items.Kind.{Kind}
use Rattle.certificate.specs.declared.errors.CertFault.{CertFault}
use Rattle.certificate.specs.Certificates.{Certificate, proofs, flaw}
use Rattle.certificate.specs.Proofs.{ProofTree}
use Rattle.certificate.specs.Refusals.{First}
use Rattle.certificate.specs.Texts as certificates
use Rattle.plan_core.specs.Contents.{Contents}
use Rattle.plan_text.specs.Grammar as plans
use Rattle.cert_check.specs.declared.answers.Answer.{Answer}
use Rattle.cert_check.specs.declared.answers.Answer.TheVariants.{Safe, Unsafe, Wrong}
use Rattle.cert_check.specs.Accepts.{Contradicts}
use Rattle.cert_check.specs.PairFaults.{IsPairFault}
use Rattle.cert_check.specs.Proved.{Certifies}
use Rattle.verifying.specs.declared.acceptance.AcceptError.{AcceptError}
use Rattle.verifying.specs.declared.acceptance.AcceptError.TheVariants.{NoMemory}

-- the bytes spell a plan, and a proof for each of its pairs
pub record IsCertified (plan_bytes cert_bytes : List ℕ) : Type 0 where
  pub plan : Contents
  pub plan_spelled : plans.Spells plan_bytes plan
  pub trees : List ProofTree
  pub proofs_spelled : certificates.Spells cert_bytes (proofs trees)
  pub certified : Certifies plan trees

-- the bytes spell a plan, and a fault of one of its pairs
pub record IsRefuted (plan_bytes cert_bytes : List ℕ) : Type 0 where
  pub plan : Contents
  pub plan_spelled : plans.Spells plan_bytes plan
  pub pair : ℕ
  pub wire : List Item
  pub first : Kind
  pub second : Kind
  pub flaw_spelled : certificates.Spells cert_bytes (flaw pair wire first second)
  pub fault : IsPairFault plan pair wire first second

-- the bytes spell a certificate of which this is wrong
abbrev pub SpellsWrong : Contents → List ℕ → CertFault → Type 0
SpellsWrong plan bytes fault =
    (value : Certificate) × certificates.Spells bytes value × Contradicts plan value fault

-- the bytes spell a plan, and the certificate's bytes are refused by themselves, or spell what is wrong
pub record IsMistaken (plan_bytes cert_bytes : List ℕ) (fault : CertFault) : Type 0 where
  pub plan : Contents
  pub plan_spelled : plans.Spells plan_bytes plan
  pub why : First cert_bytes fault ⊎ SpellsWrong plan cert_bytes fault

-- the answer is right for the bytes of a plan and of a certificate
abbrev pub AnswersBytes : List ℕ → List ℕ → Answer → Type 0
AnswersBytes plan cert Safe = IsCertified plan cert
AnswersBytes plan cert Unsafe = IsRefuted plan cert
AnswersBytes plan cert (Wrong fault) = IsMistaken plan cert fault

-- ---- what is given

-- this is the answer, unless an allocation failed
abbrev pub Answers : Result Answer AcceptError → Result Answer AcceptError → Type 0
Answers due given = (given ≡ due) ⊎ (given ≡ Err NoMemory)

-- the bytes spell this plan, and it was found safe
abbrev pub FoundSafe : List ℕ → Contents → Result Answer AcceptError → Type 0
FoundSafe plan_bytes plan given = plans.Spells plan_bytes plan × (given ≡ Ok Safe)
