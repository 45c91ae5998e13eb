-- How a run ends that reads its inputs, and then writes one report.
use Rattle.std.specs.Prelude.{ℕ, List}
use Rattle.run_parts.specs.Devices.{Reader, Writer}
use Rattle.run_parts.specs.Reading.{ReadsAll, ReadingStops}
use Rattle.run_parts.specs.Writing.{WritesAll, WritingStops}
use Rattle.run_parts.specs.declared.runs.Status.{Status}
use Rattle.run_parts.specs.declared.errors.RunError.{RunError}
use Rattle.run_parts.specs.declared.errors.RunError.TheVariants.{NoMemory}

-- the most reads of one input in a run
abbrev pub most_reads : ℕ
most_reads = 4_294_967_295

-- what a run has read of its inputs, which it found in one state and left in another: one text, or several in order
abbrev pub Readings : Type 0 → Type 0 → Type 1
Readings In Texts = In → Texts → In → Type 0

-- why a run goes no further with its inputs
abbrev pub Halts : Type 0 → Type 1
Halts In = In → RunError → In → Type 0

-- for what was read this report is due, and this status
abbrev pub DueReports : Type 0 → Type 1
DueReports Texts = Texts → List ℕ → Status → Type 0

module _ {D : Type 0} (reader : Reader D) where
  -- the run has read this text, to its end
  abbrev pub ReadsText : Readings D (List ℕ)
  ReadsText before text now = ReadsAll reader most_reads before text now

  -- the text was not read to its end, or it was and is refused
  pub data HaltsAtText (Refuses : List ℕ → RunError → Type 0) (before : D) : RunError → D → Type 0 where
    unread : {error : RunError} {now : D} →
        ReadingStops reader most_reads before error now →
        HaltsAtText Refuses before error now
    refused : {error : RunError} {now : D} {text : List ℕ} →
        ReadsText before text now →
        Refuses text error →
        HaltsAtText Refuses before error now

module _ {D E : Type 0} (first : Reader D) (second : Reader E) where
  -- the run has read two texts, each to its end
  abbrev pub ReadsBoth : Readings (D × E) (List ℕ × List ℕ)
  ReadsBoth before texts now = ReadsText first before.0 texts.0 now.0 × ReadsText second before.1 texts.1 now.1

  -- The run halted at the first text, and the second reader is as it was. Or the first text passed and the second was
  -- not read to its end, or an allocation failed after both.
  pub data HaltsAtBoth (Refuses : List ℕ → RunError → Type 0) (Passes : List ℕ → Type 0) (before : D × E) : RunError →
      D × E → Type 0 where
    at_first : {error : RunError} {now : D} →
        HaltsAtText first Refuses before.0 error now →
        HaltsAtBoth Refuses Passes before error (now, before.1)
    at_second : {error : RunError} {text : List ℕ} {now : D × E} →
        ReadsText first before.0 text now.0 →
        Passes text →
        ReadingStops second most_reads before.1 error now.1 →
        HaltsAtBoth Refuses Passes before error now
    after_both : {texts : List ℕ × List ℕ} {now : D × E} →
        ReadsBoth before texts now →
        HaltsAtBoth Refuses Passes before NoMemory now

module _ {In Texts Out : Type 0} (Reads : Readings In Texts) (Due : DueReports Texts) (writer : Writer Out) where
  -- the run has read its inputs, and written the report that is due for them
  pub record Reports (input : In) (output : Out) (status : Status) (input_now : In) (output_now : Out) : Type 0 where
    pub texts : Texts
    pub read : Reads input texts input_now
    pub report : List ℕ
    pub due : Due texts report status
    pub written : WritesAll writer output report output_now

  -- the run has no whole report: it halted at its inputs, and the writer is as it was; or it stopped as it wrote the
  -- report that is due
  pub data Stops (halts : Halts In) (input : In) (output : Out) : RunError → In → Out → Type 0 where
    unwritten : {error : RunError} {input_now : In} →
        halts input error input_now →
        Stops halts input output error input_now output
    writing : {error : RunError} {input_now : In} {output_now : Out} {texts : Texts} {report : List ℕ} {status : Status} →
        Reads input texts input_now →
        Due texts report status →
        WritingStops writer output report error output_now →
        Stops halts input output error input_now output_now
