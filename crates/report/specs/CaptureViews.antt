-- What the lines that are being made stand for.
use Rattle.std.specs.Prelude.{◌≡◌, List, ◌++◌, string_bytes}
use Rattle.plan_core.specs.Contents.{Contents}
use Rattle.capture_check.specs.Transactions.{Recorded}
use Rattle.decoding.specs.Sinks.{Sink}
use Rattle.report.specs.declared.telling.Telling.{Telling}
use Rattle.report.specs.CaptureLines.{Tally, Tells}
use Rattle.run_parts.specs.declared.errors.RunError.TheVariants.{NoMemory}

abbrev pub tally_of : Telling → Tally
tally_of telling = record {
  lines = string_bytes telling.lines;
  stopped = telling.stopped;
  unexplained = telling.unexplained;
}

-- a call tells of its transactions too, or memory runs out
abbrev pub telling_sink : Contents → Sink Telling
telling_sink plan = record {
  takes = λ before more after.
      (ts : List Recorded) → Tells plan ts (tally_of before) → Tells plan (ts ++ more) (tally_of after);
  stops = λ before more error after. error ≡ NoMemory;
}
