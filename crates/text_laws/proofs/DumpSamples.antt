-- The samples of a dump, stamp by stamp: none is earlier than its stamp, and each has a change.
use Rattle.std.proofs.Common.{◌≡◌, ℕ, ◌≤◌, inl, inr, Bool, true, false, ◌&&◌, List, [], ◌∷◌, ◌++◌, Ok, refl, sym, subst, arith}
use Rattle.std.proofs.lemmas.Grind.{common_steps}
use Rattle.std.specs.Prelude.{if◌then◌else◌}
use Rattle.pulses.specs.Laws.{AreInOrder, AreChanges}
use Rattle.pulses.proofs.LevelLemmas.{same, alike}
use Rattle.vcd_read.specs.Changes.{same_level}
use Rattle.vcd_read.specs.Dumps.{samples_of}
use Rattle.vcd_read.specs.Grammar.{Named, Stamp, AreStamps, level_after, sample_at, stamp_samples, line_for, Spells}
use Rattle.vcd_read.specs.Probes.{Finder}
use Rattle.vcd_read.specs.Tokens.{tokens_of}
use Rattle.vcd_read.specs.declared.samples.Level.{Level}
use Rattle.vcd_read.specs.declared.samples.Level.TheVariants.{Unknown}
use Rattle.vcd_read.specs.declared.samples.Sample.{Sample}
use Rattle.vcd_read.proofs.SpelledDumps.{spelled}

-- ---- samples, one after the other

-- they come in order, from this time on
abbrev ComeFrom : ℕ → List Sample → Type 0
ComeFrom time [] = Unit {0}
ComeFrom time (s ∷ more) = (time ≤ s.time) × ComeFrom s.time more

-- each of them has a change, where these were the levels before
abbrev ChangeFrom : Level → Level → List Sample → Type 0
ChangeFrom scl sda [] = Unit {0}
ChangeFrom scl sda (s ∷ more) = ((same_level scl s.scl && same_level sda s.sda) ≡ false) × ChangeFrom s.scl s.sda more

sooner : (time later : ℕ) (samples : List Sample) → time ≤ later → ComeFrom later samples → ComeFrom time samples
sooner time later [] le h = tt
sooner time later (s ∷ more) le h = grind (arith, common_steps)

next_in_order : (front rest : List Sample) (a b : Sample) (time : ℕ) → ComeFrom time (front ++ (a ∷ (b ∷ rest))) → a.time ≤ b.time
next_in_order [] rest a b time h = h.1.0
next_in_order (s ∷ front) rest a b time h = next_in_order front rest a b s.time h.1

in_order : (samples : List Sample) (time : ℕ) → ComeFrom time samples → AreInOrder samples
in_order samples time h front rest a b is = next_in_order front rest a b time (subst (ComeFrom time) is h)

no_change : (scl sda scl_now sda_now : Level) → scl ≡ scl_now → sda ≡ sda_now → (same_level scl scl_now && same_level sda sda_now) ≡ true
no_change scl sda scl_now sda_now one other = grind (arith, common_steps, same)

next_changes : (front rest : List Sample) (a b : Sample) (scl sda : Level) → ChangeFrom scl sda (front ++ (a ∷ (b ∷ rest))) → a.scl ≡ b.scl → a.sda ≡ b.sda → ⊥
next_changes [] rest a b scl sda h one other = grind (arith, common_steps, no_change)
next_changes (s ∷ front) rest a b scl sda h one other = grind (arith, common_steps, (next_changes front rest a b s.scl s.sda h.1 one other))

are_changes : (samples : List Sample) (scl sda : Level) → ChangeFrom scl sda samples → AreChanges samples
are_changes samples scl sda h front rest a b is one other = next_changes front rest a b scl sda (subst (ChangeFrom scl sda) is h) one other

-- ---- the sample of a stamp, before those of later ones

stamp_in_order : (test : Bool) (time now : ℕ) (scl sda : Level) (more : List Sample) → time ≤ now → ComeFrom now more →
    ComeFrom time ((if test then [] else record { time = now; scl = scl; sda = sda } ∷ []) ++ more)
stamp_in_order test time now scl sda more e f = grind (arith, common_steps, sooner)

both_true : (a b : Bool) → (a && b) ≡ true → (a ≡ true) × (b ≡ true)
both_true a b e = grind (arith, common_steps)

stamp_changes_by : (test : Bool) (time : ℕ) (scl sda scl_now sda_now : Level) (more : List Sample) → (same_level scl scl_now && same_level sda sda_now) ≡ test →
    ChangeFrom scl_now sda_now more →
    ChangeFrom scl sda ((if test then [] else record { time = time; scl = scl_now; sda = sda_now } ∷ []) ++ more)
stamp_changes_by test time scl sda scl_now sda_now more e f = grind (arith, common_steps, both_true, alike)

stamp_changes : (time : ℕ) (scl sda scl_now sda_now : Level) (more : List Sample) → ChangeFrom scl_now sda_now more → ChangeFrom scl sda (sample_at time scl sda scl_now sda_now ++ more)
stamp_changes time scl sda scl_now sda_now more h =
    stamp_changes_by (same_level scl scl_now && same_level sda sda_now) time scl sda scl_now sda_now more refl h

-- ---- all stamps

stamps_in_order : (stamps : List Stamp) (scl_line sda_line : Named) (scl sda : Level) (time : ℕ) → AreStamps time stamps → ComeFrom time (stamp_samples scl_line sda_line scl sda stamps)
stamps_in_order [] scl_line sda_line scl sda time are = tt
stamps_in_order (stamp ∷ stamps) scl_line sda_line scl sda time are = grind (arith, common_steps, stamp_in_order, (stamps_in_order stamps scl_line sda_line))

stamps_change : (stamps : List Stamp) (scl_line sda_line : Named) (scl sda : Level) → ChangeFrom scl sda (stamp_samples scl_line sda_line scl sda stamps)
stamps_change [] scl_line sda_line scl sda = tt
stamps_change (stamp ∷ stamps) scl_line sda_line scl sda = grind (arith, common_steps, stamp_changes, (stamps_change stamps scl_line sda_line))

-- ---- a whole dump

spelled_in_order : (scl sda : Finder) (text : List ℕ) (samples : List Sample) → Spells scl sda (tokens_of 1 text) samples → ComeFrom 0 samples
spelled_in_order scl sda text samples e = grind (arith, common_steps, stamp_in_order, stamps_in_order)

spelled_changes : (scl sda : Finder) (text : List ℕ) (samples : List Sample) → Spells scl sda (tokens_of 1 text) samples → ChangeFrom Unknown Unknown samples
spelled_changes scl sda text samples (inl (d, is, tokens, these)) =
    let scl_line = line_for scl d.declarations in
    let sda_line = line_for sda d.declarations in
    let scl_first = level_after scl_line Unknown d.first in
    let sda_first = level_after sda_line Unknown d.first in
    subst (ChangeFrom Unknown Unknown) (sym these)
    (stamp_changes 0 Unknown Unknown scl_first sda_first (stamp_samples scl_line sda_line scl_first sda_first d.stamps)
    (stamps_change d.stamps scl_line sda_line scl_first sda_first))
spelled_changes scl sda text samples (inr (declarations, is, tokens, none)) = subst (ChangeFrom Unknown Unknown) (sym none) tt

pub dumps_in_order : (scl sda : Finder) (text : List ℕ) (samples : List Sample) → samples_of scl sda text ≡ Ok samples → AreInOrder samples
dumps_in_order scl sda text samples is = in_order samples 0 (spelled_in_order scl sda text samples (spelled scl sda text samples is))

pub dumps_of_changes : (scl sda : Finder) (text : List ℕ) (samples : List Sample) → samples_of scl sda text ≡ Ok samples → AreChanges samples
dumps_of_changes scl sda text samples is = are_changes samples Unknown Unknown (spelled_changes scl sda text samples (spelled scl sda text samples is))
