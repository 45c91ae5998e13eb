-- The first refusal of a text that spells no certificate. `CertFault` in src/errors.rt has the codes.
use Rattle.std.specs.Prelude.{◌≡◌, ◌≢◌, ℕ, ◌<◌, ◌^◌, List, ◌++◌, length, Err, codes, All}
use Rattle.certificate.specs.declared.errors.CertFault.{CertFault}
use Rattle.certificate.specs.declared.errors.CertFault.TheVariants.{Format, Count, TooDeep, Pair}
use Rattle.certificate.specs.Certificates.{flaw}
use Rattle.certificate.specs.Proofs.{ProofTree}
use Rattle.certificate.specs.Reader.{Said, announced, faulty, text_said, misplaced, too_deep}
use Rattle.certificate.specs.Texts.{IsPrintableProof, Spells, proofs_text}

-- What a text of this form says is what the grammar spells, except that it may announce another number of proofs.
abbrev pub Says : List ℕ → Said → Type 0
Says text (announced number trees) =
    (number < 2 ^ 32) × All (IsPrintableProof 512) trees × (text ≡ codes "cert 1\n" ++ proofs_text number trees)
Says text (faulty pair wire first second) = Spells text (flaw pair wire first second)

-- the text has the form, but announces another number of proofs than it has
pub record Miscounts (text : List ℕ) : Type 0 where
  pub number : ℕ
  pub trees : List ProofTree
  pub number_fits : number < 2 ^ 32
  pub printable : All (IsPrintableProof 512) trees
  pub text_is : text ≡ codes "cert 1\n" ++ proofs_text number trees
  pub differs : number ≢ length trees

-- The first refusal of the text. That a proof does not prove its pair, no text says by itself.
abbrev pub First : List ℕ → CertFault → Type 0
First text (Format line) = text_said text ≡ Err (misplaced line)
First text (TooDeep line) = text_said text ≡ Err (too_deep line)
First text Count = Miscounts text
First text (Pair pair) = ⊥
