-- Levels that are alike, and samples in which none differs from before.
use Rattle.std.proofs.Common.{◌≡◌, ℕ, true, false, List, ◌∷◌, refl}
use Rattle.vcd_read.specs.declared.samples.Level.{Level}
use Rattle.vcd_read.specs.declared.samples.Level.TheVariants.{Low, High, Unknown}
use Rattle.vcd_read.specs.declared.samples.Sample.{Sample}
use Rattle.vcd_read.specs.Changes.{same_level}
use Rattle.pulses.specs.Pulses.{Levels, before}

pub same : (a : Level) → same_level a a ≡ true
same Low = refl
same High = refl
same Unknown = refl

pub alike : (a b : Level) → same_level a b ≡ true → a ≡ b
alike Low Low e = refl
alike High High e = refl
alike Unknown Unknown e = refl
alike Low High e = cc
alike Low Unknown e = cc
alike High Low e = cc
alike High Unknown e = cc
alike Unknown Low e = cc
alike Unknown High e = cc

-- neither line differs
pub no_sample : (levels : Levels) (time : ℕ) (samples : List Sample) → before levels levels time samples ≡ samples
no_sample levels time samples = rw (same levels.scl, same levels.sda)

-- SCL differs
pub scl_differs : (a x b : Level) (time : ℕ) (samples : List Sample) → same_level a x ≡ false → before (record { scl = a; sda = b }) (record { scl = x; sda = b }) time samples ≡ record { time = time; scl = x; sda = b } ∷ samples
scl_differs a x b time samples e = rw e

-- SDA differs
pub sda_differs : (a b y : Level) (time : ℕ) (samples : List Sample) → same_level b y ≡ false → before (record { scl = a; sda = b }) (record { scl = a; sda = y }) time samples ≡ record { time = time; scl = a; sda = y } ∷ samples
sda_differs a b y time samples e = rw (same a, e)
