-- How the reading of a dump goes, block by block.
use Rattle.std.specs.Prelude.{◌≡◌, ℕ, ◌<◌, ◌≤◌, true, false, List, ◌++◌, length, Some, None, Err, MatchResult}
use Rattle.vcd_read.specs.declared.errors.Refusal.{Refusal}
use Rattle.vcd_read.specs.Dumps.{samples_of, said_so_far}
use Rattle.vcd_read.specs.Probes.{Finder}
use Rattle.vcd_read.specs.Refusals.{error_of}
use Rattle.run_parts.specs.Devices.{Reader, HasGiven}
use Rattle.run_parts.specs.Runs.{ReadsText, most_reads}
use Rattle.run_parts.specs.declared.errors.RunError.{RunError}
use Rattle.run_parts.specs.declared.errors.RunError.TheVariants as error

-- nothing is refused in what was read of a dump
abbrev pub PassesSoFar : Finder → Finder → List ℕ → Type 0
PassesSoFar scl sda text = MatchResult (said_so_far scl sda text) (λ _. Unit {0}) (λ _. ⊥)

-- A dump that begins so is refused whatever follows, by the first refusal in what was read; or an allocation failed.
abbrev pub RefusesBeginning : Finder → Finder → List ℕ → RunError → Type 0
RefusesBeginning scl sda text (error.Vcd e) = (r : Refusal) × (said_so_far scl sda text ≡ Err r) × (e ≡ error_of r)
RefusesBeginning scl sda text error.NoMemory = Unit {0}
RefusesBeginning scl sda text _ = ⊥

-- the whole dump is refused; or an allocation failed
abbrev pub RefusesDump : Finder → Finder → List ℕ → RunError → Type 0
RefusesDump scl sda text (error.Vcd e) = (r : Refusal) × (samples_of scl sda text ≡ Err r) × (e ≡ error_of r)
RefusesDump scl sda text error.NoMemory = Unit {0}
RefusesDump scl sda text _ = ⊥

module _ {E : Type 0} (second : Reader E) where
  -- so many reads have given this text, and nothing in it is refused
  pub record HasBegun (scl sda : Finder) (before : E) (reads : ℕ) (text : List ℕ) (now : E) : Type 0 where
    pub given : HasGiven second before reads text now
    pub passes : PassesSoFar scl sda text

  -- Why the reading of a dump goes no further: a read answered an error, the reads met no end, an allocation failed, a
  -- read gave the first bytes that are refused with what was there, or the whole dump is refused.
  pub data HaltsAtDump (scl sda : Finder) (before : E) : RunError → E → Type 0 where
    read_fails : {reads room : ℕ} {text : List ℕ} {last now : E} →
        reads < most_reads →
        HasBegun scl sda before reads text last →
        second.gives last room None now →
        second.has_failed now ≡ true →
        HaltsAtDump scl sda before error.Read now
    meets_no_end : {text : List ℕ} {now : E} →
        HasBegun scl sda before most_reads text now →
        HaltsAtDump scl sda before error.Read now
    no_memory : {reads : ℕ} {text : List ℕ} {now : E} →
        reads ≤ most_reads →
        HasBegun scl sda before reads text now →
        HaltsAtDump scl sda before error.NoMemory now
    refused_within : {error : RunError} {reads room : ℕ} {text piece : List ℕ} {last now : E} →
        reads < most_reads →
        HasBegun scl sda before reads text last →
        second.gives last room (Some piece) now →
        0 < length piece →
        second.has_failed now ≡ false →
        RefusesBeginning scl sda (text ++ piece) error →
        HaltsAtDump scl sda before error now
    refused_at_end : {error : RunError} {text : List ℕ} {now : E} →
        ReadsText second before text now →
        PassesSoFar scl sda text →
        RefusesDump scl sda text error →
        HaltsAtDump scl sda before error now

  -- all bytes that the reads have given by then
  abbrev pub given_by_then : {scl sda : Finder} {before : E} {error : RunError} {now : E} →
      HaltsAtDump scl sda before error now → List ℕ
  given_by_then (read_fails {text = text} few begun fault failed) = text
  given_by_then (meets_no_end {text = text} begun) = text
  given_by_then (no_memory {text = text} few begun) = text
  given_by_then (refused_within {text = text} {piece = piece} few begun call some sound refuses) = text ++ piece
  given_by_then (refused_at_end {text = text} read passes refuses) = text
