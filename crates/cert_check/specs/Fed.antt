-- What a checker was fed: the text before the place where reading stands is judged, and the rest is held.
use Rattle.std.specs.Prelude.{◌≡◌, ℕ, List, [], ◌++◌, length, Option, Some, None}
use Rattle.certificate.specs.declared.lines.Standing.{Standing}
use Rattle.certificate.specs.Proofs.{ProofTree}
use Rattle.certificate.specs.Reading.{Stands}
use Rattle.plan_core.specs.Contents.{Contents}
use Rattle.cert_check.specs.declared.checkers.Checker.{Checker}
use Rattle.cert_check.specs.declared.checkers.Stop.{Stop}
use Rattle.cert_check.specs.declared.tallies.Tally.{Tally}
use Rattle.cert_check.specs.Judged.{Tallies, IsMemo}

-- this is the tally of the proofs in the text up to where reading stands; nothing is before that where it stands nowhere
abbrev pub IsJudgedTo : Contents → Option Standing → Tally → List ℕ → Type 0
IsJudgedTo plan None tally before = (before ≡ []) × Tallies plan [] tally
IsJudgedTo plan (Some standing) tally before =
    (trees : List ProofTree) × Stands before trees standing × Tallies plan trees tally

-- the checker is one of certificates of this plan: what it remembers proves pairs of it
abbrev pub IsOf : Contents → Checker → Type 0
IsOf plan checker = IsMemo plan checker.memo

-- the checker was fed this text
pub record IsFed (plan : Contents) (checker : Checker) (text : List ℕ) : Type 0 where
  pub before : List ℕ
  pub judged : IsJudgedTo plan checker.after checker.tally before
  pub all : text ≡ before ++ checker.held.items

-- reading stands after these proofs in the text, and so many bytes are left of it
pub record StandsIn (text : List ℕ) (trees : List ProofTree) (standing : Standing) (left : ℕ) : Type 0 where
  pub before : List ℕ
  pub rest : List ℕ
  pub stands : Stands before trees standing
  pub text_is : text ≡ before ++ rest
  pub size : length rest ≡ left

-- the same, and this is the tally of the proofs
abbrev pub StopsAt : Contents → List ℕ → Tally → Stop → Type 0
StopsAt plan text tally stop =
    (trees : List ProofTree) × StandsIn text trees stop.standing stop.left × Tallies plan trees tally
