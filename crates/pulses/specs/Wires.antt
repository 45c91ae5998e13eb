-- What is known of the two lines between two samples, and what has still to be handed out of it.
use Rattle.std.specs.Prelude.{◌≡◌, ℕ, ◌-◌, Bool, ◌&&◌, ◌==◌, not, List, if◌then◌else◌}
use Rattle.vcd_read.specs.declared.samples.Level.{Level}
use Rattle.vcd_read.specs.declared.samples.Sample.{Sample}
use Rattle.vcd_read.specs.Changes.{same_level}
use Rattle.pulses.specs.declared.wires.First.{First}
use Rattle.pulses.specs.declared.wires.First.TheVariants as first
use Rattle.pulses.specs.declared.wires.Wire.{Wire}
use Rattle.pulses.specs.Pulses.{Line, scl, sda, keeps, Levels, before, quiet_from}

-- a line that has had this level since the beginning
abbrev pub steady : Level → Wire
steady level = record { level = level; kept = level; from = 0; missing = 0 }

-- the line as a run of this level begins at a time
abbrev pub with_run : Wire → Level → (from least : ℕ) → Wire
with_run wire level from least = record wire { level = level; from = from; missing = least }

-- the line after this time without a change
abbrev pub after : ℕ → Wire → Wire
after passed wire = record wire { missing = wire.missing - passed }

-- whether its level has lasted, and does not go on yet
abbrev pub is_due : Wire → Bool
is_due wire = wire.missing == 0 && not (same_level wire.kept wire.level)

-- its level goes on
abbrev pub going_on : Wire → Wire
going_on wire = record wire { kept = wire.level }

-- where its level has lasted, it goes on
abbrev pub GoesOn : Wire → Type 0
GoesOn wire = wire.missing ≡ 0 → wire.kept ≡ wire.level

-- the level that a line goes on with from the beginning of its run on
abbrev pub settled : Line → Wire → ℕ → List Sample → Level
settled line wire now more = if keeps line wire.level wire.missing now more then wire.level else wire.kept

-- the samples in which the runs of both lines begin, as far as they last, in order, and then these
abbrev pub begun : First → (on_scl on_sda : Wire) → Levels → List Sample → List Sample
begun first.Both on_scl on_sda end samples =
    before (record { scl = on_scl.kept; sda = on_sda.kept }) end on_scl.from samples
begun first.Scl on_scl on_sda end samples =
    before (record { scl = on_scl.kept; sda = on_sda.kept }) (record { scl = end.scl; sda = on_sda.kept }) on_scl.from
    (before (record { scl = end.scl; sda = on_sda.kept }) end on_sda.from samples)
begun first.Sda on_scl on_sda end samples =
    before (record { scl = on_scl.kept; sda = on_sda.kept }) (record { scl = on_scl.kept; sda = end.sda }) on_sda.from
    (before (record { scl = on_scl.kept; sda = end.sda }) end on_scl.from samples)

-- what is to come of these lines, where the last sample had this time and these come next
abbrev pub coming : ℕ → First → (on_scl on_sda : Wire) → ℕ → List Sample → List Sample
coming least first on_scl on_sda now more =
    let end : Levels = record { scl = settled scl on_scl now more; sda = settled sda on_sda now more } in
    begun first on_scl on_sda end
    (quiet_from least (record { scl = on_scl.level; sda = on_sda.level }) end more)
