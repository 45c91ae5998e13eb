-- The run that writes a brief of a plan text.
use Rattle.std.proofs.Common.{◌≡◌, inl, inr, ℕ, List, Result, Ok, Err, IfOk, IfErr, IsErrAnd, sym, subst}
use Rattle.given_runs.specs.Due.{AbbreviatedPlan}
use Rattle.given_runs.specs.Written.{LacksOrStops, Wrote}
use Rattle.given_runs.specs.declared.texts.Unabbreviated.{Unabbreviated}
use Rattle.given_runs.proofs.RunLemmas.{reports, stops}
use Rattle.plan_core.specs.Contents.{Contents}
use Rattle.plan_text.specs.Grammar.{Spells}
use Rattle.run_parts.specs.Devices.{Reader, Writer}
use Rattle.run_parts.specs.Runs.{ReadsText, HaltsAtText, Reports, Stops, unwritten, refused}
use Rattle.run_parts.specs.declared.errors.RunError.{RunError}
use Rattle.run_parts.specs.declared.errors.RunError.TheVariants.{Brief}
use Rattle.run_parts.specs.declared.runs.Status.{Status}
use Rattle.spellings.specs.Spellings.{Abbreviated, GivesNoBrief}

pub on_unabbreviated : {X : Type 0} (r : Result X Unabbreviated) (error : RunError) (P : RunError → Type 0) → IsErrAnd r (λ e. e.halted.error ≡ error) → P error → IfErr r (λ e. P e.halted.error)
on_unabbreviated (Ok x) error P h p = tt
on_unabbreviated (Err e) error P h p = subst P (sym h) p

module _ {D O : Type 0} (reader : Reader D) (writer : Writer O) (before now : D) (out out_now : O) (text : List ℕ) (plan : Contents) (read : ReadsText reader before text now) (spelled : Spells text plan) where
  abbreviated : (report : List ℕ) (status : Status) → AbbreviatedPlan plan report status → Abbreviated text report status
  abbreviated report status due = record { plan = plan; spelled = spelled; sayable = due.sayable; meant = due.meant; good = due.good }

  pub brief_reports : (r : Result Status Unabbreviated) → IfOk r (λ status. Wrote (AbbreviatedPlan plan) writer out status out_now) → IfOk r (λ status. Reports (ReadsText reader) Abbreviated writer before out status now out_now)
  brief_reports (Ok status) wrote = reports (ReadsText reader) Abbreviated writer (HaltsAtText reader GivesNoBrief) before out now out_now (AbbreviatedPlan plan) text read abbreviated status wrote
  brief_reports (Err e) wrote = tt

  lacks_or_stops : (error : RunError) → LacksOrStops plan writer out error out_now → Stops (ReadsText reader) Abbreviated writer (HaltsAtText reader GivesNoBrief) before out error now out_now
  lacks_or_stops error (inl why) =
      subst (λ (o : O). Stops (ReadsText reader) Abbreviated writer (HaltsAtText reader GivesNoBrief) before out error now o) (sym why.3)
      (subst (λ (e : RunError). Stops (ReadsText reader) Abbreviated writer (HaltsAtText reader GivesNoBrief) before out e now out) (sym why.1)
      (unwritten (refused {error = Brief why.0} read (plan, spelled, why.2))))
  lacks_or_stops error (inr why) = stops (ReadsText reader) Abbreviated writer (HaltsAtText reader GivesNoBrief) before out now out_now (AbbreviatedPlan plan) text read abbreviated error (refused read tt) why

  pub brief_stops : (r : Result Status Unabbreviated) → IfErr r (λ e. LacksOrStops plan writer out e.halted.error out_now) → IfErr r (λ e. Stops (ReadsText reader) Abbreviated writer (HaltsAtText reader GivesNoBrief) before out e.halted.error now out_now)
  brief_stops (Ok status) why = tt
  brief_stops (Err e) why = lacks_or_stops e.halted.error why
