-- What the lines of a capture say, once they were told of its transactions.
use Rattle.std.proofs.Common.{◌≡◌, inl, inr, ℕ, List, [], ◌++◌, Result, Ok, Err, IfOk, IfErr, OnOk, ap, sym, ◌∙◌, subst, refl}
use Rattle.plan_core.specs.Contents.{Contents}
use Rattle.plan_core.specs.PlanContents.{plan_contents}
use Rattle.vcd_read.specs.Probes.{Finder}
use Rattle.capture_check.specs.Transactions.{Recorded}
use Rattle.decoding.specs.Decoding.{DecodesDump, HaltsAtDecoding, at_dump, at_both, at_sink, at_end}
use Rattle.decoding.specs.Dumps.{HaltsAtDump, no_memory, refused_at_end}
use Rattle.decoding.specs.Explaining.{explaining_sink}
use Rattle.decoding.specs.Sinks.{Sink, HasTaken, no_call, next_call}
use Rattle.decoding.specs.declared.sinks.Explaining.{Explaining}
use Rattle.report.specs.CaptureLines.{Tells, capture_report}
use Rattle.report.specs.CaptureViews.{tally_of, telling_sink}
use Rattle.report.specs.Captures.{Explained, CaptureOf}
use Rattle.report.specs.declared.telling.CaptureReport.{CaptureReport}
use Rattle.report.specs.declared.telling.Telling.{Telling}
use Rattle.run_parts.specs.Devices.{Reader, Writer}
use Rattle.run_parts.specs.Runs.{ReadsText, Reports, Stops, writing}
use Rattle.run_parts.specs.Writing.{WritesAll, WritingStops}
use Rattle.run_parts.specs.declared.runs.Status.{Status}
use Rattle.run_parts.specs.declared.errors.RunError.{RunError}
use Rattle.run_parts.specs.declared.errors.RunError.TheVariants as error

module _ {R : Type 0} where
  abbrev pub under : Explaining R Telling → Contents
  under e = plan_contents e.plan.now

  abbrev pub sink : Sink (Explaining R Telling)
  sink = explaining_sink telling_sink

  module _ (start : Explaining R Telling) where
    same_plan : (ts : List Recorded) (now : Explaining R Telling) → HasTaken sink start ts now → now.plan ≡ start.plan
    same_plan _ _ no_call = refl
    same_plan _ now (next_call {ts} {more} {before} taken call) = call.0 ∙ same_plan ts before taken

    tells : (ts : List Recorded) (now : Explaining R Telling) → HasTaken sink start ts now → Tells (under start) [] (tally_of start.sink) → Tells (under start) ts (tally_of now.sink)
    tells _ _ no_call silent = silent
    tells _ now (next_call {ts} {more} {before} taken call) silent =
        let same : under before ≡ under start = ap (λ p. plan_contents p.now) (same_plan ts before taken) in
        subst (λ (plan : Contents). Tells plan (ts ++ more) (tally_of now.sink)) same
        (call.1 ts (subst (λ (plan : Contents). Tells plan ts (tally_of before.sink)) (sym same) (tells ts before taken silent)))

    memory : (last now : Explaining R Telling) (more : List Recorded) (e : RunError) → sink.stops last more e now → e ≡ error.NoMemory
    memory last now more e (same, inl before) = before.0
    memory last now more e (same, inr so) = so

    module _ (least : ℕ) (scl sda : Finder) where
      -- they are the report
      pub report_of : (dump report : List ℕ) (status : Status) (told : Explaining R Telling) → DecodesDump sink start least scl sda dump told → Tells (under start) [] (tally_of start.sink) → report ≡ capture_report (tally_of told.sink) → Explained status (tally_of told.sink) → CaptureOf least scl sda (under start) dump report status
      report_of dump report status told decodes silent lines judged = record {
        samples = decodes.samples;
        read = decodes.read;
        tally = tally_of told.sink;
        told = tells _ told decodes.taken silent;
        lines = lines;
        judged = judged;
      }

      -- but where memory runs out they stop nothing
      pub only_the_dump : {E : Type 0} (second : Reader E) (before now : E) (e : RunError) (told : Explaining R Telling) → HaltsAtDecoding sink start least scl sda second before e now told → HaltsAtDump second scl sda before e now
      only_the_dump second before now e told (at_dump halts begins whole taken) = halts
      only_the_dump second before now e told (at_both halts begins whole taken why memory) = halts
      only_the_dump second before now e told (at_sink {more = more} {last = last} few begun begins taken why) =
          subst (λ (e : RunError). HaltsAtDump second scl sda before e now) (sym (memory last told more e why)) (no_memory few begun)
      only_the_dump second before now e told (at_end {more = more} {last = last} all passes given split taken why) =
          subst (λ (e : RunError). HaltsAtDump second scl sda before e now) (sym (memory last told more e why)) (refused_at_end {error = error.NoMemory} all passes tt)

-- the report of a dump that was read is written
module _ (least : ℕ) (scl sda : Finder) (plan : Contents) {E O : Type 0} (reader : Reader E) (writer : Writer O) (vcd vcd_now : E) (out out_now : O) (dump report : List ℕ) (status : Status) (read : ReadsText reader vcd dump vcd_now) (capture : CaptureOf least scl sda plan dump report status) where
  pub reports : (r : Result CaptureReport RunError) → IfOk r (λ it. it.status ≡ status) → OnOk r (WritesAll writer out report out_now) → IfOk r (λ it. Reports (ReadsText reader) (CaptureOf least scl sda plan) writer vcd out it.status vcd_now out_now)
  reports (Ok it) same written =
      record { texts = dump; read = read; report = report; due = subst (CaptureOf least scl sda plan dump report) (sym same) capture; written = written }
  reports (Err e) same written = tt

  pub stops_writing : (r : Result CaptureReport RunError) → IfErr r (λ e. WritingStops writer out report e out_now) → IfErr r (λ e. Stops (ReadsText reader) (CaptureOf least scl sda plan) writer (HaltsAtDump reader scl sda) vcd out e vcd_now out_now)
  stops_writing (Ok it) stopped = tt
  stops_writing (Err e) stopped = writing read capture stopped
