-- What an answer for a plan says: one at most is right, a plan that is found safe is safe, and one that is found unsafe is not.
use Rattle.std.proofs.Common.{◌≡◌, sym, ◌∙◌, subst}
use Rattle.certificate.specs.declared.errors.CertFault.{CertFault}
use Rattle.certificate.specs.Certificates.{Certificate, proofs, flaw}
use Rattle.plan_core.specs.Contents.{Contents}
use Rattle.plan_core.specs.Faults.{IsSafe}
use Rattle.plan_core.specs.Lawful.{pair}
use Rattle.plan_core.proofs.ListLemmas.{at_get}
use Rattle.plan_core.proofs.PairLaws.{from_pairs, IsPair-from_parts}
use Rattle.cert_check.specs.declared.answers.Answer.{Answer}
use Rattle.cert_check.specs.declared.answers.Answer.TheVariants.{Safe, Unsafe}
use Rattle.cert_check.specs.Accepts.{Contradicts, Judges}
use Rattle.cert_check.proofs.Checked.{certified_is_safe, not_wrong, wrong_once}

-- ---- one answer

pub same_judged : (plan other : Contents) (value due : Certificate) (answer : Answer) → plan ≡ other → value ≡ due → Judges plan value answer → Judges other due answer
same_judged plan other value due answer e f j = subst (λ (v : Certificate). Judges other v answer) f (subst (λ (p : Contents). Judges p value answer) e j)

pub safe_not_contradicted : (plan : Contents) (value : Certificate) (fault : CertFault) → Judges plan value Safe → Contradicts plan value fault → ⊥
safe_not_contradicted plan (proofs trees) fault j w = not_wrong plan trees fault j w
safe_not_contradicted plan (flaw pair wire first second) fault j w = j

pub unsafe_not_contradicted : (plan : Contents) (value : Certificate) (fault : CertFault) → Judges plan value Unsafe → Contradicts plan value fault → ⊥
unsafe_not_contradicted plan (proofs trees) fault j w = j
unsafe_not_contradicted plan (flaw pair wire first second) fault j w = w.0 j

pub contradicted_once : (plan : Contents) (value : Certificate) (e f : CertFault) → Contradicts plan value e → Contradicts plan value f → e ≡ f
contradicted_once plan (proofs trees) e f w v = wrong_once plan trees e f w v
contradicted_once plan (flaw pair wire first second) e f w v = w.1 ∙ sym v.1

-- ---- what is found safe, and what is not

pub judged_safe : (plan : Contents) (value : Certificate) → Judges plan value Safe → IsSafe plan
judged_safe plan (proofs trees) j = certified_is_safe plan trees j
judged_safe plan (flaw pair wire first second) j = absurd j

pub faulty_pair : (plan : Contents) (value : Certificate) → Judges plan value Unsafe → IsSafe plan → ⊥
faulty_pair plan (proofs trees) j safe = j
faulty_pair plan (flaw i wire first second) j safe =
    let at = at_get _ i (j.x, j.y) j.listed in
    let parts = from_pairs plan j.x j.y (i, at.0, at.1) in
    let lawful = IsPair-from_parts plan j.x j.y parts.0 parts.1 parts.2 in
    safe (pair j.x j.y) lawful.1 (wire, j.x, j.y, first, second, j.fault)
