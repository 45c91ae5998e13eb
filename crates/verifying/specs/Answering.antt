-- How the reading of a certificate ends that is judged as it comes.
use Rattle.std.specs.Prelude.{ℕ, List}
use Rattle.run_parts.specs.Devices.{Reader}
use Rattle.run_parts.specs.Reading.{ReadingStops}
use Rattle.run_parts.specs.Runs.{ReadsText, most_reads}
use Rattle.run_parts.specs.declared.errors.RunError.{RunError}
use Rattle.run_parts.specs.declared.errors.RunError.TheVariants.{NoMemory}

-- the certificate was not read to its end, or an allocation failed after that
pub data HaltsAtAnswer {D : Type 0} (reader : Reader D) (before : D) : RunError → D → Type 0 where
  unread : {error : RunError} {now : D} →
      ReadingStops reader most_reads before error now →
      HaltsAtAnswer reader before error now
  no_memory : {text : List ℕ} {now : D} →
      ReadsText reader before text now →
      HaltsAtAnswer reader before NoMemory now
