-- What the line of verify and its status say.
use Rattle.std.proofs.Common.{◌≡◌, List, ℕ, get_or, ap, subst, arith}
use Rattle.std.specs.Prelude.{codes}
use Rattle.certificate.specs.declared.errors.CertFault.TheVariants.{Format, Count, TooDeep, Pair}
use Rattle.verifying.specs.Accepts.{IsCertified, AnswersBytes}
use Rattle.cert_check.proofs.Checked.{certified_is_safe}
use Rattle.cert_check.specs.declared.answers.Answer.{Answer}
use Rattle.cert_check.specs.declared.answers.Answer.TheVariants.{Safe, Unsafe, Wrong}
use Rattle.plan_core.specs.Contents.{Contents}
use Rattle.plan_core.specs.Faults.{IsSafe}
use Rattle.plan_text.proofs.ReadLemmas.{one_plan}
use Rattle.plan_text.specs.Grammar.{Spells}
use Rattle.run_parts.specs.declared.runs.Status.{Status}
use Rattle.run_parts.specs.declared.runs.Status.TheVariants.{Good}
use Rattle.verifying.specs.Answers.{answer_status, verify_line}
use Rattle.verifying.specs.Verified.{Verified}

plan_of : (text cert : List ℕ) (answer : Answer) → AnswersBytes text cert answer → (plan : Contents) × Spells text plan
plan_of text cert Safe h = (h.plan, h.plan_spelled)
plan_of text cert Unsafe h = (h.plan, h.plan_spelled)
plan_of text cert (Wrong fault) h = (h.plan, h.plan_spelled)

pub verified_spells : (text cert report : List ℕ) (status : Status) → Verified (text, cert) report status → (plan : Contents) × Spells text plan
verified_spells text cert report status h = plan_of text cert h.answer h.right

certified_safe : (text cert : List ℕ) (plan : Contents) → IsCertified text cert → Spells text plan → IsSafe plan
certified_safe text cert plan h spelled =
    subst IsSafe (one_plan text h.plan plan h.plan_spelled spelled) (certified_is_safe h.plan h.trees h.certified)

-- the line of another answer differs from that of Safe in its first byte, or in the tenth
line_of_safe : (text cert : List ℕ) (plan : Contents) (answer : Answer) → AnswersBytes text cert answer → codes "accepted safe\n" ≡ verify_line answer → Spells text plan → IsSafe plan
line_of_safe text cert plan Safe h line spelled = certified_safe text cert plan h spelled
line_of_safe text cert plan Unsafe h line spelled =
    let differ : 115 ≡ 117 = ap (λ (xs : List ℕ). get_or xs 9 0) line in absurd (omega (arith, differ))
line_of_safe text cert plan (Wrong (Format n)) h line spelled =
    let differ : 97 ≡ 119 = ap (λ (xs : List ℕ). get_or xs 0 0) line in absurd (omega (arith, differ))
line_of_safe text cert plan (Wrong Count) h line spelled =
    let differ : 97 ≡ 119 = ap (λ (xs : List ℕ). get_or xs 0 0) line in absurd (omega (arith, differ))
line_of_safe text cert plan (Wrong (TooDeep n)) h line spelled =
    let differ : 97 ≡ 119 = ap (λ (xs : List ℕ). get_or xs 0 0) line in absurd (omega (arith, differ))
line_of_safe text cert plan (Wrong (Pair n)) h line spelled =
    let differ : 97 ≡ 119 = ap (λ (xs : List ℕ). get_or xs 0 0) line in absurd (omega (arith, differ))

status_of_safe : (text cert : List ℕ) (plan : Contents) (answer : Answer) → AnswersBytes text cert answer → Good ≡ answer_status answer → Spells text plan → IsSafe plan
status_of_safe text cert plan Safe h status spelled = certified_safe text cert plan h spelled
status_of_safe text cert plan Unsafe h status spelled = cc
status_of_safe text cert plan (Wrong fault) h status spelled = cc

pub safe_by_line : (text cert : List ℕ) (status : Status) (plan : Contents) → Verified (text, cert) (codes "accepted safe\n") status → Spells text plan → IsSafe plan
safe_by_line text cert status plan h spelled = line_of_safe text cert plan h.answer h.right h.line spelled

pub safe_by_status : (text cert report : List ℕ) (plan : Contents) → Verified (text, cert) report Good → Spells text plan → IsSafe plan
safe_by_status text cert report plan h spelled = status_of_safe text cert plan h.answer h.right h.ended spelled
