-- What a reader of a dump in pieces stands for.
use Rattle.std.specs.Prelude.{◌≡◌, ℕ, ◌⊎◌, List, ◌++◌, Option, Some, None, Result, Ok, Err, MatchResult}
use Rattle.vcd_read.specs.declared.errors.Refusal.{Refusal}
use Rattle.run_errors.specs.declared.dumps.VcdError.{VcdError}
use Rattle.run_errors.specs.declared.dumps.VcdError.TheVariants.{NoMemory}
use Rattle.vcd_read.specs.declared.reader.Reader.{Reader}
use Rattle.vcd_read.specs.declared.samples.Sample.{Sample}
use Rattle.vcd_read.specs.Pieces.{Kept, Scan, kept_at_first, bytes_read, kept_of}
use Rattle.vcd_read.specs.Probes.{Finder}
use Rattle.vcd_read.specs.Refusals.{error_of}

-- what a reader keeps, and the refusal that it has answered
pub record Reading : Type 0 where
  pub kept : Kept
  pub refused : Option Refusal

abbrev pub reading_of : Reader → Reading
reading_of r = record { kept = kept_of r.scanner; refused = r.refused }

-- the samples that nobody has cleared
abbrev pub samples_in : Reading → List Sample
samples_in r = r.kept.samples

abbrev pub StandsFor : Option Refusal → Scan → List Sample → Kept → Type 0
StandsFor None scan cleared k = scan ≡ Ok (record k { samples = cleared ++ k.samples })
StandsFor (Some refusal) scan cleared k = scan ≡ Err (record { refusal = refusal; samples = cleared ++ k.samples })

-- A reader for these two signals that was fed this text, in whatever pieces, and from which these samples were cleared.
unfoldable pub Fed : (scl sda : Finder) (text : List ℕ) → List Sample → Reading → Type 0
Fed scl sda text cleared r = StandsFor r.refused (bytes_read (kept_at_first scl sda) text) cleared r.kept

-- This holds after the call, unless it answered out of memory.
abbrev pub UnlessMemory : {A : Type 0} → Result A VcdError → Type 0 → Type 0
UnlessMemory result P = MatchResult result (λ _. P) (λ e. (e ≡ NoMemory) ⊎ P)

-- The error is this refusal of the definition.
abbrev pub IsRefusal : {A : Type 0} → Result A Refusal → VcdError → Type 0
IsRefusal given e = MatchResult given (λ _. ⊥) (λ refusal. e ≡ error_of refusal)

-- A call returns Ok exactly where the definition refuses nothing, and else its refusal; out of memory aside.
abbrev pub Answers : {A B : Type 0} → Result A VcdError → Result B Refusal → Type 0
Answers result given =
    MatchResult result (λ _. MatchResult given (λ _. Unit {0}) (λ _. ⊥)) (λ e. (e ≡ NoMemory) ⊎ IsRefusal given e)
