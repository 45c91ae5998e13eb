-- What a run answers where one of its calls answers an error, and where it writes its report.
use Rattle.std.proofs.Common.{◌≡◌, List, ℕ, Result, Ok, Err, IfOk, IfErr, OnOk, IsErrAnd, sym, subst}
use Rattle.run_parts.specs.Devices.{Writer}
use Rattle.run_parts.specs.Writing.{WritesAll, WritingStops}
use Rattle.run_parts.specs.Runs.{Readings, Halts, DueReports, Reports, Stops, unwritten, writing}
use Rattle.run_parts.specs.declared.runs.Status.{Status}
use Rattle.run_parts.specs.declared.errors.RunError.{RunError}

-- what holds of an error holds where the call answers that error
pub on_error : {X : Type 0} (r : Result X RunError) (error : RunError) (P : RunError → Type 0) → IsErrAnd r (λ e. e ≡ error) → P error → IfErr r P
on_error (Ok x) error P h p = tt
on_error (Err e) error P h p = subst P (sym h) p

module _ {In Texts Out : Type 0} (Reads : Readings In Texts) (Due : DueReports Texts) (writer : Writer Out) (halts : Halts In) (input : In) (output : Out) (input_now : In) where
  -- the call was made before the report was there
  pub halting_stops : {X : Type 0} (r : Result X RunError) (error : RunError) → IsErrAnd r (λ e. e ≡ error) → halts input error input_now → IfErr r (λ e. Stops Reads Due writer halts input output e input_now output)
  halting_stops r error h why = on_error r error (λ e. Stops Reads Due writer halts input output e input_now output) h (unwritten why)

  module _ (texts : Texts) (read : Reads input texts input_now) (report : List ℕ) (status : Status) (due : Due texts report status) (output_now : Out) where
    pub writing_reports : (r : Result Status RunError) → IfOk r (λ it. it ≡ status) → OnOk r (WritesAll writer output report output_now) → IfOk r (λ it. Reports Reads Due writer input output it input_now output_now)
    writing_reports (Ok it) same written = record { texts = texts; read = read; report = report; due = subst (Due texts report) (sym same) due; written = written }
    writing_reports (Err e) same written = tt

    pub writing_stops : (r : Result Status RunError) → IfErr r (λ e. WritingStops writer output report e output_now) → IfErr r (λ e. Stops Reads Due writer halts input output e input_now output_now)
    writing_stops (Ok it) h = tt
    writing_stops (Err e) h = writing read due h
