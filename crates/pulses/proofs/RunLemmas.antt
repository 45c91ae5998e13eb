-- Runs: what the next sample says of the level that a line has.
use Rattle.std.proofs.Common.{◌≡◌, ℕ, ◌-◌, zero, suc, Bool, true, false, nat_le, List, [], ◌∷◌, refl, ap, arith, if◌then◌else◌, sym, ◌∙◌}
use Rattle.std.proofs.lemmas.Bool.Decides.{nat_tests}
use Rattle.vcd_read.specs.declared.samples.Level.{Level}
use Rattle.vcd_read.specs.declared.samples.Sample.{Sample}
use Rattle.vcd_read.specs.Changes.{same_level}
use Rattle.pulses.specs.declared.wires.Wire.{Wire}
use Rattle.pulses.specs.Pulses.{Line, keeps, level_at}
use Rattle.pulses.specs.Wires.{after, GoesOn, settled, with_run}
use Rattle.pulses.proofs.LevelLemmas.{same}

-- what has lasted keeps its level
pub lasted : (line : Line) (level : Level) (now : ℕ) (more : List Sample) → keeps line level 0 now more ≡ true
lasted line level now [] = refl
lasted line level now (s ∷ more) = grind (arith, nat_tests)

-- time passes up to the next sample
pub passed : (line : Line) (level : Level) (longer now : ℕ) (s : Sample) (more : List Sample) → keeps line level (longer - (s.time - now)) s.time (s ∷ more) ≡ keeps line level longer now (s ∷ more)
passed line level longer now s more = grind (arith, nat_tests)

more_than_none : (n : ℕ) → nat_le (suc n) 0 ≡ false
more_than_none n = grind (arith, nat_tests)

none_passed : (n : ℕ) → suc n - 0 ≡ suc n
none_passed n = omega arith

-- the next sample comes at once, and has the level
pub unchanged : (line : Line) (level : Level) (longer : ℕ) (s : Sample) (more : List Sample) → line s ≡ level → keeps line level longer s.time (s ∷ more) ≡ keeps line level longer s.time more
unchanged line level zero s more e = lasted line level s.time (s ∷ more) ∙ sym (lasted line level s.time more)
unchanged line level (suc n) s more e =
    let at_once : s.time - s.time ≡ 0 = omega arith in
    let alike : same_level level (line s) ≡ true = rw e (same level) in
    rw (at_once, alike, more_than_none n, none_passed n)

-- the next sample comes at once, and has another level
pub ends : (line : Line) (level : Level) (n : ℕ) (s : Sample) (more : List Sample) → same_level level (line s) ≡ false → keeps line level (suc n) s.time (s ∷ more) ≡ false
ends line level n s more e =
    let at_once : s.time - s.time ≡ 0 = omega arith in
    rw (at_once, e, more_than_none n)

pub settled_later : (line : Line) (wire : Wire) (now : ℕ) (s : Sample) (more : List Sample) → settled line (after (s.time - now) wire) s.time (s ∷ more) ≡ settled line wire now (s ∷ more)
settled_later line wire now s more = ap (λ (b : Bool). if b then wire.level else wire.kept) (passed line wire.level wire.missing now s more)

pub settled_on : (line : Line) (wire : Wire) (s : Sample) (more : List Sample) → line s ≡ wire.level → settled line wire s.time (s ∷ more) ≡ settled line wire s.time more
settled_on line wire s more e = ap (λ (b : Bool). if b then wire.level else wire.kept) (unchanged line wire.level wire.missing s more e)

pub settled_lasted : (line : Line) (wire : Wire) (now : ℕ) (more : List Sample) → wire.missing ≡ 0 → settled line wire now more ≡ wire.level
settled_lasted line wire now more e = rw (e, lasted line wire.level now more)

pub settled_ended : (line : Line) (wire : Wire) (s : Sample) (more : List Sample) → same_level wire.level (line s) ≡ false → GoesOn wire → settled line wire s.time (s ∷ more) ≡ wire.kept
settled_ended line wire s more e g = go wire.missing refl
  where
    go : (n : ℕ) → wire.missing ≡ n → settled line wire s.time (s ∷ more) ≡ wire.kept
    go zero m = settled_lasted line wire s.time (s ∷ more) m ∙ sym (g m)
    go (suc n) m = rw (m, ends line wire.level n s more e)

pub level_on : (least : ℕ) (line : Line) (old kept : Level) (s : Sample) (more : List Sample) → line s ≡ old → level_at least line old kept s more ≡ kept
level_on least line old kept s more e =
    let alike : same_level old (line s) ≡ true = rw e (same old) in
    rw alike

pub level_changed : (least : ℕ) (line : Line) (wire : Wire) (s : Sample) (more : List Sample) → same_level wire.level (line s) ≡ false → level_at least line wire.level wire.kept s more ≡ settled line (with_run wire (line s) s.time least) s.time more
level_changed least line wire s more e = rw e
