-- What is answered for two texts, by what is right: a text spells one value, or has one first refusal.
use Rattle.std.proofs.Common.{◌≡◌, ℕ, List, Result, Ok, Err, refl, ap, sym, subst, inl, inr, ◌⊎◌}
use Rattle.certificate.specs.declared.errors.CertFault.{CertFault}
use Rattle.certificate.specs.Certificates.{Certificate, proofs, flaw}
use Rattle.certificate.specs.Refusals.{First}
use Rattle.certificate.specs.Texts as certificates
use Rattle.certificate.proofs.EitherText.{not_both, one_refusal, one_value}
use Rattle.plan_core.specs.Contents.{Contents}
use Rattle.plan_core.specs.Faults.{IsSafe}
use Rattle.plan_core.specs.Limits.{IsWithinLimits}
use Rattle.plan_text.specs.declared.errors.PlanError.{PlanError}
use Rattle.plan_text.specs.declared.errors.PlanError.TheVariants as plan_error
use Rattle.plan_text.specs.Grammar as plans
use Rattle.plan_text.specs.Refusals as refusals
use Rattle.plan_text.proofs.ReadLemmas.{one_plan}
use Rattle.plan_text.proofs.RefusedLemmas.{first_same, spelled_not_refused}
use Rattle.cert_check.specs.declared.answers.Answer.{Answer}
use Rattle.cert_check.specs.declared.answers.Answer.TheVariants.{Safe, Unsafe, Wrong}
use Rattle.cert_check.specs.Accepts.{Contradicts, Judges, IsJudged, IsAnswer}
use Rattle.cert_check.proofs.AnswerLemmas.{same_judged, safe_not_contradicted, unsafe_not_contradicted, contradicted_once, judged_safe, faulty_pair}
use Rattle.cert_check.proofs.Checked.{not_wrong}
use Rattle.verifying.specs.declared.acceptance.AcceptError.{AcceptError}
use Rattle.verifying.specs.declared.acceptance.AcceptError.TheVariants.{Plan, NoMemory}
use Rattle.verifying.specs.Accepts.{IsCertified, IsRefuted, IsMistaken, Answers, AnswersBytes, FoundSafe}
use Rattle.verifying.specs.Refused.{refused_with}
use Rattle.verifying.specs.Right.{IsAnswered, IsRight}

-- ---- what the parts answer is right

refusal_right : (p q : List ℕ) (e : PlanError) → (e ≡ plan_error.NoMemory) ⊎ refusals.First p e → IsRight p q (Err (refused_with e))
refusal_right p q plan_error.NoMemory h = tt
refusal_right p q (plan_error.NotAscii line) (inl m) = cc
refusal_right p q (plan_error.Version line) (inl m) = cc
refusal_right p q (plan_error.Unexpected line) (inl m) = cc
refusal_right p q (plan_error.BadCount line) (inl m) = cc
refusal_right p q (plan_error.TooLong line) (inl m) = cc
refusal_right p q (plan_error.TooMany line) (inl m) = cc
refusal_right p q (plan_error.Twice line) (inl m) = cc
refusal_right p q (plan_error.Unknown line) (inl m) = cc
refusal_right p q (plan_error.NotAscii line) (inr f) = (f, λ e. cc)
refusal_right p q (plan_error.Version line) (inr f) = (f, λ e. cc)
refusal_right p q (plan_error.Unexpected line) (inr f) = (f, λ e. cc)
refusal_right p q (plan_error.BadCount line) (inr f) = (f, λ e. cc)
refusal_right p q (plan_error.TooLong line) (inr f) = (f, λ e. cc)
refusal_right p q (plan_error.TooMany line) (inr f) = (f, λ e. cc)
refusal_right p q (plan_error.Twice line) (inr f) = (f, λ e. cc)
refusal_right p q (plan_error.Unknown line) (inr f) = (f, λ e. cc)

-- a refusal of the plan's text
pub refused_right : (p q : List ℕ) (e : PlanError) (r : Result Answer AcceptError) → r ≡ Err (refused_with e) → (e ≡ plan_error.NoMemory) ⊎ refusals.First p e → IsRight p q r
refused_right p q e r is h = subst (IsRight p q) (sym is) (refusal_right p q e h)

-- what is the answer for a plan is the answer for each text that spells it
pub answers_texts : (plan : Contents) (bytes : List ℕ) (answer : Answer) → IsAnswer plan bytes answer → (text : List ℕ) → plans.Spells text plan → AnswersBytes text bytes answer
answers_texts plan bytes Safe (proofs trees, spelled, certified) text s = record { plan = plan; plan_spelled = s; trees = trees; proofs_spelled = spelled; certified = certified }
answers_texts plan bytes Safe (flaw pair wire first second, spelled, none) text s = absurd none
answers_texts plan bytes Unsafe (proofs trees, spelled, none) text s = absurd none
answers_texts plan bytes Unsafe (flaw pair wire first second, spelled, fault) text s = record {
  plan = plan;
  plan_spelled = s;
  pair = pair;
  wire = wire;
  first = first;
  second = second;
  flaw_spelled = spelled;
  fault = fault;
}
answers_texts plan bytes (Wrong fault) (inl first) text s = record { plan = plan; plan_spelled = s; why = inl first }
answers_texts plan bytes (Wrong fault) (inr (proofs trees, spelled, wrong)) text s = record { plan = plan; plan_spelled = s; why = inr (proofs trees, spelled, wrong) }
answers_texts plan bytes (Wrong fault) (inr (flaw pair wire first second, spelled, wrong)) text s = record { plan = plan; plan_spelled = s; why = inr (flaw pair wire first second, spelled, wrong) }

-- ---- what is right is answered

module _ (p q : List ℕ) where
  -- a certificate of the plan that the text spells
  same_answer : (plan : Contents) (value : Certificate) (answer : Answer) → plans.Spells p plan → certificates.Spells q value → IsAnswered p q answer → IsJudged plan q answer ⊎ ((fault : CertFault) × (answer ≡ Wrong fault) × First q fault)
  same_answer plan value Safe s t a = inl (subst (λ (c : Contents). IsJudged c q Safe) (one_plan p a.plan plan a.spelled s) a.right)
  same_answer plan value Unsafe s t a = inl (subst (λ (c : Contents). IsJudged c q Unsafe) (one_plan p a.plan plan a.spelled s) a.right)
  same_answer plan value (Wrong fault) s t a =
      elim a.right [
        | inl first ↦ inr (fault, refl, first)
        | inr judged ↦ inl (subst (λ (c : Contents). IsJudged c q (Wrong fault)) (one_plan p a.plan plan a.spelled s) judged)
      ]

  -- the answer for the certificate that the text spells
  judged_as : (plan : Contents) (value : Certificate) (answer : Answer) → plans.Spells p plan → certificates.Spells q value → IsAnswered p q answer → Judges plan value answer
  judged_as plan value answer s t a =
      elim (same_answer plan value answer s t a) [
        | inl j ↦ same_judged plan plan j.0 value answer refl (one_value q j.0 value j.1 t) j.2
        | inr f ↦ absurd (not_both q value f.0 t f.2)
      ]

  pub finds_safe : (r : Result Answer AcceptError) → IsRight p q r → IsCertified p q → Answers (Ok Safe) r
  finds_safe (Ok Safe) a h = inl refl
  finds_safe (Ok Unsafe) a h = absurd (judged_as h.plan (proofs h.trees) Unsafe h.plan_spelled h.proofs_spelled a)
  finds_safe (Ok (Wrong fault)) a h =
      absurd (not_wrong h.plan h.trees fault h.certified (judged_as h.plan (proofs h.trees) (Wrong fault) h.plan_spelled h.proofs_spelled a))
  finds_safe (Err (Plan e)) a h = absurd (spelled_not_refused p h.plan e h.plan_spelled a.0)
  finds_safe (Err NoMemory) a h = inr refl

  pub finds_unsafe : (r : Result Answer AcceptError) → IsRight p q r → IsRefuted p q → Answers (Ok Unsafe) r
  finds_unsafe (Ok Safe) a h = absurd (judged_as h.plan (flaw h.pair h.wire h.first h.second) Safe h.plan_spelled h.flaw_spelled a)
  finds_unsafe (Ok Unsafe) a h = inl refl
  finds_unsafe (Ok (Wrong fault)) a h =
      absurd ((judged_as h.plan (flaw h.pair h.wire h.first h.second) (Wrong fault) h.plan_spelled h.flaw_spelled a).0 h.fault)
  finds_unsafe (Err (Plan e)) a h = absurd (spelled_not_refused p h.plan e h.plan_spelled a.0)
  finds_unsafe (Err NoMemory) a h = inr refl

  -- a text that is refused is not spelled
  refused_answer : (answer : Answer) (fault : CertFault) → IsAnswered p q answer → First q fault → answer ≡ Wrong fault
  refused_answer Safe fault a f = absurd (not_both q a.right.0 fault a.right.1 f)
  refused_answer Unsafe fault a f = absurd (not_both q a.right.0 fault a.right.1 f)
  refused_answer (Wrong given) fault a f =
      elim a.right [ inl first ↦ ap Wrong (one_refusal q given fault first f) | inr judged ↦ absurd (not_both q judged.0 fault judged.1 f) ]

  contradicted_answer : (plan : Contents) (value : Certificate) (answer : Answer) (fault : CertFault) → Judges plan value answer → Contradicts plan value fault → answer ≡ Wrong fault
  contradicted_answer plan value Safe fault j w = absurd (safe_not_contradicted plan value fault j w)
  contradicted_answer plan value Unsafe fault j w = absurd (unsafe_not_contradicted plan value fault j w)
  contradicted_answer plan value (Wrong given) fault j w = ap Wrong (contradicted_once plan value given fault (wrong_is plan value given j) w)
    where
      wrong_is : (plan : Contents) (value : Certificate) (given : CertFault) → Judges plan value (Wrong given) → Contradicts plan value given
      wrong_is plan (proofs trees) given j = j
      wrong_is plan (flaw pair wire first second) given j = j

  pub finds_wrong : (r : Result Answer AcceptError) (fault : CertFault) → IsRight p q r → IsMistaken p q fault → Answers (Ok (Wrong fault)) r
  finds_wrong (Ok answer) fault a h =
      elim h.why [
        | inl first ↦ inl (ap Ok (refused_answer answer fault a first))
        | inr w ↦ inl (ap Ok (contradicted_answer h.plan w.0 answer fault (judged_as h.plan w.0 answer h.plan_spelled w.1 a) w.2))
      ]
  finds_wrong (Err (Plan e)) fault a h = absurd (spelled_not_refused p h.plan e h.plan_spelled a.0)
  finds_wrong (Err NoMemory) fault a h = inr refl

pub refuses : (p q : List ℕ) (r : Result Answer AcceptError) (e : PlanError) → IsRight p q r → refusals.First p e → Answers (Err (Plan e)) r
refuses p q (Ok answer) e a f = absurd (spelled_not_refused p a.plan e a.spelled f)
refuses p q (Err (Plan given)) e a f = inl (ap (λ (d : PlanError). Err (Plan d)) (first_same p given e a.0 f))
refuses p q (Err NoMemory) e a f = inr refl

-- ---- what is found safe, and what is not

pub found_safe : (p q : List ℕ) (r : Result Answer AcceptError) (plan : Contents) → IsRight p q r → FoundSafe p plan r → IsSafe plan × IsWithinLimits plan
found_safe p q r plan right found =
    let a : IsAnswered p q Safe = subst (IsRight p q) found.1 right in
    let same = one_plan p a.plan plan a.spelled found.0 in
    (subst IsSafe same (judged_safe a.plan a.right.0 a.right.2), subst IsWithinLimits same a.limits)

pub found_unsafe : (p q : List ℕ) (r : Result Answer AcceptError) (plan : Contents) → IsRight p q r → plans.Spells p plan → r ≡ Ok Unsafe → IsSafe plan → ⊥
found_unsafe p q r plan right spelled is safe =
    let a : IsAnswered p q Unsafe = subst (IsRight p q) is right in
    faulty_pair plan a.right.0 (subst (λ (c : Contents). Judges c a.right.0 Unsafe) (one_plan p a.plan plan a.spelled spelled) a.right.2) safe
