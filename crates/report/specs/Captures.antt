-- What a run says of a plan text and a dump.
use Rattle.std.specs.Prelude.{◌≡◌, ◌≢◌, ℕ, List, Ok}
use Rattle.plan_core.specs.Contents.{Contents}
use Rattle.plan_text.specs.Grammar.{Spells}
use Rattle.vcd_read.specs.declared.samples.Sample.{Sample}
use Rattle.vcd_read.specs.Dumps.{samples_of}
use Rattle.vcd_read.specs.Probes.{Finder}
use Rattle.pulses.specs.Following.{quiet_transactions}
use Rattle.decoding.specs.Dumps.{HaltsAtDump}
use Rattle.report.specs.CaptureLines.{Tally, Tells, capture_report}
use Rattle.run_parts.specs.PlanTexts.{RefusesPlan, SpellsPlan}
use Rattle.run_parts.specs.Devices.{Reader}
use Rattle.run_parts.specs.Runs.{ReadsText, HaltsAtText}
use Rattle.run_parts.specs.declared.runs.Status.{Status}
use Rattle.run_parts.specs.declared.runs.Status.TheVariants.{Good, Bad, Refused}
use Rattle.run_parts.specs.declared.errors.RunError.{RunError}

-- Good where all that were stopped are explained, and Bad where one is not
abbrev pub Explained : Status → Tally → Type 0
Explained Good tally = tally.unexplained ≡ 0
Explained Bad tally = tally.unexplained ≢ 0
Explained Refused tally = ⊥

-- the dump has samples, the report tells of the transactions in them without the levels that last less than this time, and
-- the status of what is unexplained
pub record CaptureOf (least : ℕ) (scl sda : Finder) (plan : Contents) (dump report : List ℕ) (status : Status) : Type 0 where
  pub samples : List Sample
  pub read : samples_of scl sda dump ≡ Ok samples
  pub tally : Tally
  pub told : Tells plan (quiet_transactions least samples) tally
  pub lines : report ≡ capture_report tally
  pub judged : Explained status tally

-- the first text spells a plan, and the report is that of the dump under it
pub record Captured (least : ℕ) (scl sda : Finder) (texts : List ℕ × List ℕ) (report : List ℕ) (status : Status) : Type 0 where
  pub plan : Contents
  pub spelled : Spells texts.0 plan
  pub capture : CaptureOf least scl sda plan texts.1 report status

module _ {D E : Type 0} (first : Reader D) (second : Reader E) where
  -- the run halted at the plan, and the second reader is as it was; or the plan passed, and it halted at the dump
  pub data HaltsAtCapture (scl sda : Finder) (before : D × E) : RunError → D × E → Type 0 where
    at_plan : {error : RunError} {now : D} →
        HaltsAtText first RefusesPlan before.0 error now →
        HaltsAtCapture scl sda before error (now, before.1)
    at_dump : {error : RunError} {text : List ℕ} {now : D × E} →
        ReadsText first before.0 text now.0 →
        SpellsPlan text →
        HaltsAtDump second scl sda before.1 error now.1 →
        HaltsAtCapture scl sda before error now
