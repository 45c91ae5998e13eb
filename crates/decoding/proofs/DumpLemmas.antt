-- Refusals of a dump.
use Rattle.std.proofs.Common.{◌≡◌, ◌⊎◌, inl, inr, ℕ, List, sym, subst, refl, Result, Ok, Err}
use Rattle.vcd_read.specs.declared.errors.Refusal.{Refusal}
use Rattle.vcd_read.specs.declared.errors.Refusal.TheVariants.{NoSignal, BadToken, TimeBack, Unended}
use Rattle.run_errors.specs.declared.dumps.VcdError.{VcdError}
use Rattle.run_errors.specs.declared.dumps.VcdError.TheVariants.{NoMemory}
use Rattle.vcd_read.specs.declared.samples.Sample.{Sample}
use Rattle.vcd_read.specs.Dumps.{samples_of, said_so_far}
use Rattle.vcd_read.specs.Probes.{Finder}
use Rattle.vcd_read.specs.Readers.{IsRefusal}
use Rattle.vcd_read.specs.Refusals.{error_of}
use Rattle.decoding.specs.Dumps.{RefusesBeginning, RefusesDump, HaltsAtDump, given_by_then, read_fails, meets_no_end, no_memory, refused_within, refused_at_end}
use Rattle.run_parts.specs.Devices.{Reader, HasGiven, next_read}
use Rattle.run_parts.specs.declared.errors.RunError.{RunError}
use Rattle.run_parts.specs.RunErrors.{vcd_error}

given_refusal : (scl sda : Finder) (text : List ℕ) (r : Refusal) → samples_of scl sda text ≡ Err r → RefusesDump scl sda text (vcd_error (error_of r))
given_refusal scl sda text (NoSignal s) q = (NoSignal s, q, refl)
given_refusal scl sda text (BadToken line) q = (BadToken line, q, refl)
given_refusal scl sda text (TimeBack line) q = (TimeBack line, q, refl)
given_refusal scl sda text (Unended line) q = (Unended line, q, refl)

pub refuses_dump : (scl sda : Finder) (text : List ℕ) (e : VcdError) → IsRefusal (samples_of scl sda text) e → RefusesDump scl sda text (vcd_error e)
refuses_dump scl sda text e h = go (samples_of scl sda text) refl h
  where
    go : (given : Result (List Sample) Refusal) → samples_of scl sda text ≡ given → IsRefusal given e → RefusesDump scl sda text (vcd_error e)
    go (Ok samples) q f = absurd f
    go (Err r) q f = subst (λ (d : VcdError). RefusesDump scl sda text (vcd_error d)) (sym f) (given_refusal scl sda text r q)

given_beginning : (scl sda : Finder) (text : List ℕ) (r : Refusal) → said_so_far scl sda text ≡ Err r →
    RefusesBeginning scl sda text (vcd_error (error_of r))
given_beginning scl sda text (NoSignal which) q = (NoSignal which, q, refl)
given_beginning scl sda text (BadToken line) q = (BadToken line, q, refl)
given_beginning scl sda text (TimeBack line) q = (TimeBack line, q, refl)
given_beginning scl sda text (Unended line) q = (Unended line, q, refl)

pub refuses_beginning : (scl sda : Finder) (text : List ℕ) (e : VcdError) →
    (e ≡ NoMemory) ⊎ IsRefusal (said_so_far scl sda text) e → RefusesBeginning scl sda text (vcd_error e)
refuses_beginning scl sda text e (inl none) =
    subst (λ (d : VcdError). RefusesBeginning scl sda text (vcd_error d)) (sym none) tt
refuses_beginning scl sda text e (inr h) = go (said_so_far scl sda text) refl h
  where
    go : (given : _) → said_so_far scl sda text ≡ given → IsRefusal given e → RefusesBeginning scl sda text (vcd_error e)
    go (Ok said) q f = absurd f
    go (Err r) q f =
        subst (λ (d : VcdError). RefusesBeginning scl sda text (vcd_error d)) (sym f) (given_beginning scl sda text r q)

-- all that was given by then, as reads have given it
pub given_then : {E : Type 0} (second : Reader E) (scl sda : Finder) (before now : E) (e : RunError) (halts : HaltsAtDump second scl sda before e now) → (reads : ℕ) × (last : E) × HasGiven second before reads (given_by_then second halts) last
given_then second scl sda before now _ (read_fails few begun fault failed) = (_, _, begun.given)
given_then second scl sda before now _ (meets_no_end begun) = (_, _, begun.given)
given_then second scl sda before now _ (no_memory few begun) = (_, _, begun.given)
given_then second scl sda before now e (refused_within few begun call some sound refuses) = (_, _, next_read begun.given call some sound)
given_then second scl sda before now e (refused_at_end read passes refuses) = (_, _, read.read)
