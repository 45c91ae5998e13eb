-- How a run over what gives a plan ends, by how it ends once the plan was found.
use Rattle.std.proofs.Common.{◌≡◌, ◌⊎◌, inl, inr, ℕ, List, Result, Ok, Err, IfOk, IfErr, OnOk, IsErrAnd, sym, subst, ◌∙◌}
use Rattle.given_plans.specs.declared.plans.Halted.{Halted}
use Rattle.given_runs.specs.Written.{Wrote, StoppedWithin, StopsWriting}
use Rattle.run_parts.specs.Devices.{Writer}
use Rattle.run_parts.specs.Runs.{Readings, Halts, DueReports, Reports, Stops, unwritten, writing}
use Rattle.run_parts.specs.Writing.{WritesAll, WritingStops}
use Rattle.run_parts.specs.declared.errors.RunError.{RunError}
use Rattle.run_parts.specs.declared.errors.RunError.TheVariants.{NoMemory}
use Rattle.run_parts.specs.declared.runs.Status.{Status}

-- what holds of an error holds where the call answers that error
pub on_halted : {X : Type 0} (r : Result X Halted) (error : RunError) (P : RunError → Type 0) → IsErrAnd r (λ e. e.error ≡ error) → P error → IfErr r (λ e. P e.error)
on_halted (Ok x) error P h p = tt
on_halted (Err e) error P h p = subst P (sym h) p

module _ {In Texts Out : Type 0} (Reads : Readings In Texts) (Due : DueReports Texts) (writer : Writer Out) (halts : Halts In) (input : In) (output : Out) (input_now : In) (output_now : Out) where
  -- a report that is due for what was read was written, or not to its end
  pub reports : (P : List ℕ → Status → Type 0) (texts : Texts) → Reads input texts input_now → ((report : List ℕ) (status : Status) → P report status → Due texts report status) → (status : Status) → Wrote P writer output status output_now → Reports Reads Due writer input output status input_now output_now
  reports P texts read owes status wrote = record { texts = texts; read = read; report = wrote.report; due = owes wrote.report status wrote.due; written = wrote.written }

  stops_within : (P : List ℕ → Status → Type 0) (texts : Texts) → Reads input texts input_now → ((report : List ℕ) (status : Status) → P report status → Due texts report status) → (error : RunError) → halts input NoMemory input_now → ((error ≡ NoMemory) × (output_now ≡ output)) ⊎ StoppedWithin P writer output error output_now → Stops Reads Due writer halts input output error input_now output_now
  stops_within P texts read owes error halt (inl none) =
      subst (λ (o : Out). Stops Reads Due writer halts input output error input_now o) (sym none.1)
      (subst (λ (e : RunError). Stops Reads Due writer halts input output e input_now output) (sym none.0) (unwritten halt))
  stops_within P texts read owes error halt (inr within) = writing read (owes within.report within.status within.due) within.stopped

  pub stops : (P : List ℕ → Status → Type 0) (texts : Texts) → Reads input texts input_now → ((report : List ℕ) (status : Status) → P report status → Due texts report status) → (error : RunError) → halts input NoMemory input_now → StopsWriting P writer output error output_now → Stops Reads Due writer halts input output error input_now output_now
  stops P texts read owes error halt why = stops_within P texts read owes error halt why

-- what holds of out of memory holds where the call answers that alone
pub if_error : {X : Type 0} (r : Result X Halted) (error : RunError) (P : RunError → Type 0) → IfErr r (λ e. e.error ≡ error) → P error → IfErr r (λ e. P e.error)
if_error (Ok x) error P h p = tt
if_error (Err e) error P h p = subst P (sym h) p

-- what holds of each error holds of what follows from it
pub if_err_map : {X : Type 0} (r : Result X Halted) (P Q : RunError → Type 0) → ((error : RunError) → P error → Q error) → IfErr r (λ e. P e.error) → IfErr r (λ e. Q e.error)
if_err_map (Ok x) P Q f h = tt
if_err_map (Err e) P Q f h = f e.error h

-- ---- a run that has found its value

module _ {In Texts Out X : Type 0} (Reads : Readings In Texts) (Due : DueReports Texts) (writer : Writer Out) (halts : Halts In) (input : In) (output : Out) (input_now : In) (output_now : Out) (P : List ℕ → Status → Type 0) (texts : Texts) (read : Reads input texts input_now) (owes : (report : List ℕ) (status : Status) → P report status → Due texts report status) where
  pub written_reports : (r : Result X Halted) (status_of : X → Status) → IfOk r (λ it. Wrote P writer output (status_of it) output_now) → IfOk r (λ it. Reports Reads Due writer input output (status_of it) input_now output_now)
  written_reports (Ok it) status_of wrote = reports Reads Due writer halts input output input_now output_now P texts read owes (status_of it) wrote
  written_reports (Err e) status_of wrote = tt

  pub written_stops : (r : Result X Halted) → halts input NoMemory input_now → IfErr r (λ e. StopsWriting P writer output e.error output_now) → IfErr r (λ e. Stops Reads Due writer halts input output e.error input_now output_now)
  written_stops (Ok it) halt why = tt
  written_stops (Err e) halt why = stops Reads Due writer halts input output input_now output_now P texts read owes e.error halt why

-- ---- a report that is written as lines

module _ {Out : Type 0} (P : List ℕ → Status → Type 0) (writer : Writer Out) (before now : Out) (report : List ℕ) (status : Status) (due : P report status) where
  pub lines_wrote : (r : Result Status RunError) → IfOk r (λ it. it ≡ status) → OnOk r (WritesAll writer before report now) → IfOk r (λ it. Wrote P writer before it now)
  lines_wrote (Ok it) same written = record { report = report; due = subst (P report) (sym same) due; written = written }
  lines_wrote (Err e) same written = tt

  pub lines_stop : (r : Result Status RunError) → IfErr r (λ e. WritingStops writer before report e now) → IfErr r (λ e. StopsWriting P writer before e now)
  lines_stop (Ok it) stopped = tt
  lines_stop (Err e) stopped = inr (record { report = report; status = status; due = due; stopped = stopped })

  pub stops_at : (error given : RunError) → given ≡ error → ((error ≡ NoMemory) × (now ≡ before)) ⊎ WritingStops writer before report error now → StopsWriting P writer before given now
  stops_at error given same (inl none) = inl (same ∙ none.0, none.1)
  stops_at error given same (inr stopped) = inr (record { report = report; status = status; due = due; stopped = subst (λ (e : RunError). WritingStops writer before report e now) (sym same) stopped })
