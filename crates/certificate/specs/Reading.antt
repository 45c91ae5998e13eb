-- What a certificate says as far as it has been read: the proofs so far, of which each stands on a line of its own.
use Rattle.std.specs.Prelude.{◌≡◌, ◌⊎◌, ℕ, ◌+◌, ◌<◌, ◌^◌, Option, Some, None, Result, Ok, Err, MatchResult, List, [], ◌∷◌, ◌++◌}
use Rattle.std.specs.Prelude.{length, codes, All}
use Rattle.certificate.specs.declared.errors.CertError.{CertError}
use Rattle.certificate.specs.declared.errors.CertError.TheVariants.{Wrong, NoMemory}
use Rattle.certificate.specs.declared.errors.CertFault.{CertFault}
use Rattle.certificate.specs.declared.read.Head.{Head}
use Rattle.certificate.specs.declared.read.Head.TheVariants.{Proofs, Flaw}
use Rattle.certificate.specs.declared.lines.ProofLines.{ProofLines}
use Rattle.certificate.specs.declared.lines.Standing.{Standing}
use Rattle.certificate.specs.declared.values.Cert.{Cert}
use Rattle.certificate.specs.declared.values.CertText.{CertText}
use Rattle.certificate.specs.Certificates.{Certificate, certificate_of, proofs, flaw}
use Rattle.certificate.specs.Places.{unread}
use Rattle.certificate.specs.Proofs.{ProofTree, proof_tree}
use Rattle.certificate.specs.Reader.{FormFault}
use Rattle.certificate.specs.Refusals.{First}
use Rattle.certificate.specs.Texts.{IsPrintableProof, Spells, proofs_text}

-- what was refused is the first refusal of the text, or memory was
abbrev pub Fails : List ℕ → CertError → Type 0
Fails text (Wrong fault) = First text fault
Fails text NoMemory = Unit {0}

-- reading answers this certificate, or that an allocation failed
abbrev pub AnswersValue : Result CertText CertError → Certificate → Type 0
AnswersValue answer value = MatchResult answer (λ it. certificate_of it ≡ value) (λ e. e ≡ NoMemory)

-- reading answers this refusal, or that an allocation failed
abbrev pub AnswersFault : Result CertText CertError → CertFault → Type 0
AnswersFault answer fault = MatchResult answer (λ it. ⊥) (λ e. (e ≡ NoMemory) ⊎ (e ≡ Wrong fault))

-- what is refused, if anything
abbrev pub refusal : {A : Type 0} → Result A FormFault → Option FormFault
refusal (Ok said) = None
refusal (Err fault) = Some fault

-- These proofs and what is left make up the text. What is left begins on the line after them.
pub record ReadSoFar (text : List ℕ) (trees : List ProofTree) (left : ProofLines) : Type 0 where
  pub printable : All (IsPrintableProof 512) trees
  pub counted : length trees ≡ left.seen
  pub placed : left.source.line ≡ length trees + 3
  pub fits : left.number < 2 ^ 32
  pub text_is : text ≡ (codes "cert 1\n" ++ proofs_text left.number trees) ++ left.source.rest.now

-- these proofs make up the text up to where reading stands
pub record Stands (before : List ℕ) (trees : List ProofTree) (standing : Standing) : Type 0 where
  pub printable : All (IsPrintableProof 512) trees
  pub counted : length trees ≡ standing.seen
  pub fits : standing.number < 2 ^ 32
  pub text_is : before ≡ codes "cert 1\n" ++ proofs_text standing.number trees

-- how many proofs the second line of the text announces
abbrev pub announced : ProofLines → ℕ
announced left = left.number

-- the text that is left
abbrev pub text_left : ProofLines → List ℕ
text_left left = left.source.rest.now

-- the bytes that are left
abbrev pub bytes_left : ProofLines → ℕ
bytes_left left = unread left.source

-- the front of a text: a fault is the whole text
abbrev pub HeadRead : List ℕ → Head → Type 0
HeadRead text (Proofs left) = ReadSoFar text [] left
HeadRead text (Flaw pair fault) = Spells text (flaw pair fault.wire.items fault.first fault.second)

-- one more proof has been read
abbrev pub AddsTree : ProofTree → ProofLines → ProofLines → Type 0
AddsTree tree old new =
    (text : List ℕ) (trees : List ProofTree) → ReadSoFar text trees old → ReadSoFar text (trees ++ tree ∷ []) new

abbrev pub AddsProof : Cert → ProofLines → ProofLines → Type 0
AddsProof proof old new = AddsTree (proof_tree proof) old new

-- the proofs so far are the whole certificate
abbrev pub EndsHere : ProofLines → Type 0
EndsHere left = (text : List ℕ) (trees : List ProofTree) → ReadSoFar text trees left → Spells text (proofs trees)

-- the text is refused, whatever has been read of it
abbrev pub RefusedHere : ProofLines → CertError → Type 0
RefusedHere left e = (text : List ℕ) (trees : List ProofTree) → ReadSoFar text trees left → Fails text e
