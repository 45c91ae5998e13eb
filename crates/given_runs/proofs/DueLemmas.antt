-- What is due for a plan, by what its finders and writers say.
use Rattle.std.proofs.Common.{◌≡◌, ◌∙◌, ◌⊎◌, inl, inr, ℕ, zero, suc, List, [], ◌∷◌, Some, refl, sym, subst, ap}
use Rattle.given_runs.specs.Due.{CheckedPlan, CertifiedPlan, OrderedPlan, PrintedPlan}
use Rattle.order.specs.Lines.{order_lines}
use Rattle.order.specs.Orders.{IsOrder}
use Rattle.order.specs.declared.orders.Order.{Order}
use Rattle.order.specs.declared.totals.Total.{Total}
use Rattle.plan_core.specs.Pairs.{pairs_of}
use Rattle.given_runs.specs.Written.{Wrote, StopsWriting}
use Rattle.plan_core.specs.Contents.{Contents}
use Rattle.plan_core.specs.Limits.{IsWithinLimits}
use Rattle.report.specs.Certificates.{Certifies, StopsCertifying}
use Rattle.report.specs.Checks.{Judges}
use Rattle.report.specs.FaultLines.{fault_report}
use Rattle.report.proofs.LineLemmas.{report_is}
use Rattle.run_parts.specs.Devices.{Writer, by_parts}
use Rattle.run_parts.specs.Writing.{WritingStops}
use Rattle.run_parts.specs.declared.errors.RunError.{RunError}
use Rattle.run_parts.specs.declared.errors.RunError.TheVariants.{NoMemory}
use Rattle.run_parts.specs.declared.runs.Status.{Status}
use Rattle.run_parts.specs.declared.runs.Status.TheVariants.{Good, Bad}
use Rattle.spellings.specs.Canonical.{plan_text}
use Rattle.verdicts.specs.Faults.{AreFaults, fault_list}
use Rattle.verdicts.specs.declared.listed.Faults.{Faults}
use Rattle.verdicts.specs.Certificates.{certificate_for}
use Rattle.verdicts.specs.Verdicts.{AreVerdicts, AreSafe, IsSafeOutcome}
use Rattle.verdicts.proofs.TableLemmas.{safe_plan, safe_verdicts}
use Rattle.certificate.specs.Texts.{cert_text}
use Rattle.pair_walk.specs.declared.walk_pair.Outcome.{Outcome}
use Rattle.pair_walk.specs.declared.walk_pair.Outcome.TheVariants.{Safe, Unsafe}
use Rattle.pair_walk.specs.declared.walk_pair.Verdict.{Verdict}
use Rattle.spellings.proofs.CanonicalSpelling.{spelled}

pub checked_plan : (plan : Contents) (report bytes : List ℕ) (faults : Faults) (status : Status) → AreFaults plan (fault_list faults) → bytes ≡ report → report ≡ fault_report plan (fault_list faults) → Judges status plan → CheckedPlan plan bytes status
checked_plan plan report bytes faults status right whole same judged = record {
  verdicts = right.verdicts;
  right = right.right;
  lines = whole ∙ (same ∙ report_is plan right.verdicts (fault_list faults) right.right right.these);
  judged = judged;
}

-- ---- certificates

outcome_safe : (o : Outcome) → IsSafeOutcome o ⊎ (IsSafeOutcome o → ⊥)
outcome_safe (Safe cert) = inl tt
outcome_safe (Unsafe fault) = inr (λ h. h)

same_verdict : (v w : Verdict) → Some v ≡ Some w → v ≡ w
same_verdict v w e = cc

more_safe : (v : Verdict) (vs : List Verdict) → IsSafeOutcome v.outcome → AreSafe vs → AreSafe (v ∷ vs)
more_safe v vs first rest zero w e = subst (λ (u : Verdict). IsSafeOutcome u.outcome) (same_verdict v w e) first
more_safe v vs first rest (suc i) w e = rest i w e

rest_safe : (v : Verdict) (vs : List Verdict) → IsSafeOutcome v.outcome ⊎ (IsSafeOutcome v.outcome → ⊥) → AreSafe vs ⊎ (AreSafe vs → ⊥) → AreSafe (v ∷ vs) ⊎ (AreSafe (v ∷ vs) → ⊥)
rest_safe v vs (inr fails) rest = inr (λ all. fails (all 0 v refl))
rest_safe v vs (inl first) (inl all) = inl (more_safe v vs first all)
rest_safe v vs (inl first) (inr fails) = inr (λ all. fails (λ i w e. all (suc i) w e))

are_safe : (vs : List Verdict) → AreSafe vs ⊎ (AreSafe vs → ⊥)
are_safe [] = inl (λ i w e. cc)
are_safe (v ∷ vs) = rest_safe v vs (outcome_safe v.outcome) (are_safe vs)

judged_so : (plan : Contents) (verdicts : List Verdict) → AreVerdicts plan verdicts → AreSafe verdicts ⊎ (AreSafe verdicts → ⊥) → (status : Status) × Judges status plan
judged_so plan verdicts right (inl all) = (Good, safe_plan plan verdicts right all)
judged_so plan verdicts right (inr fails) = (Bad, λ safe. fails (safe_verdicts plan verdicts right safe))

-- some status judges of a plan
pub some_status : (plan : Contents) (verdicts : List Verdict) → AreVerdicts plan verdicts → (status : Status) × Judges status plan
some_status plan verdicts right = judged_so plan verdicts right (are_safe verdicts)

certified_plan : (plan : Contents) (verdicts : List Verdict) (status : Status) → IsWithinLimits plan → AreVerdicts plan verdicts → Judges status plan → CertifiedPlan plan (cert_text (certificate_for verdicts)) status
certified_plan plan verdicts status limits right judged = record { limits = limits; verdicts = verdicts; right = right; written = refl; judged = judged }

module _ {D : Type 0} (plan : Contents) (limits : IsWithinLimits plan) (writer : Writer D) (before now : D) where
  pub certifies_plan : (status : Status) → Certifies plan writer before status now → Wrote (CertifiedPlan plan) (by_parts writer) before status now
  certifies_plan status h = record {
    report = cert_text (certificate_for h.verdicts);
    due = certified_plan plan h.verdicts status limits h.right h.judged;
    written = h.written;
  }

  pub stops_certifying : (error given : RunError) → given ≡ error → ((error ≡ NoMemory) × (now ≡ before)) ⊎ StopsCertifying plan writer before error now → StopsWriting (CertifiedPlan plan) (by_parts writer) before given now
  stops_certifying error given same (inl none) = inl (same ∙ none.0, none.1)
  stops_certifying error given same (inr h) =
      let judged = judged_so plan h.verdicts h.right (are_safe h.verdicts) in
      inr (record {
        report = cert_text (certificate_for h.verdicts);
        status = judged.0;
        due = certified_plan plan h.verdicts judged.0 limits h.right judged.1;
        stopped = subst (λ (e : RunError). WritingStops (by_parts writer) before (cert_text (certificate_for h.verdicts)) e now) (sym same) h.stopped;
      })

-- ---- spellings

pub printed_plan : (plan : Contents) (status : Status) → IsWithinLimits plan → status ≡ Good → PrintedPlan plan (plan_text plan) status
printed_plan plan status limits good = record { canonical = refl; read_back = spelled plan limits; good = good }

-- ---- who wins

pub ordered_plan : (plan : Contents) (order : Order) (status : Status) (report bytes : List ℕ) → IsOrder plan order → Judges status plan → bytes ≡ report → report ≡ order_lines plan order.pairs.items order.ways.items order.totals.items → OrderedPlan plan bytes status
ordered_plan plan order status report bytes it judged whole same = record {
  lines = record {
    ways = order.ways.items;
    right = it.ways;
    lines = whole ∙ (same ∙ (ap (λ (ps : List (ℕ × ℕ)). order_lines plan ps order.ways.items order.totals.items) it.pairs ∙ ap (λ (ts : List Total). order_lines plan (pairs_of plan) order.ways.items ts) it.totals));
  };
  judged = judged;
}
