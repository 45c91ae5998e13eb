-- What is left in a follower has not ended: two continuations of its samples have no first transaction in common.
use Rattle.std.proofs.Common.{◌≡◌, ℕ, ◌+◌, ◌-◌, Bool, true, false, nat_le, List, [], ◌∷◌, Option, Some, None, refl, ap, sym, ◌∙◌, subst, arith, if◌then◌else◌, ◌==◌, ◌&&◌}
use Rattle.std.proofs.lemmas.Bool.Decides.{nat_tests}
use Rattle.vcd_read.specs.declared.samples.Level.{Level}
use Rattle.vcd_read.specs.declared.samples.Level.TheVariants.{Low, Unknown}
use Rattle.vcd_read.specs.declared.samples.Sample.{Sample}
use Rattle.vcd_read.specs.Changes.{same_level}
use Rattle.capture_check.specs.declared.watching.Lines.{Lines}
use Rattle.capture_check.specs.declared.listening.Mark.{Mark}
use Rattle.capture_check.specs.declared.listening.Until.{Until}
use Rattle.capture_check.specs.declared.listening.Until.TheVariants as ending
use Rattle.capture_check.specs.Events.{Seen, events_from}
use Rattle.capture_check.specs.Transactions.{Bus, unknown, free, busy, Recorded, transactions_from}
use Rattle.capture_check.specs.Views.{place_of}
use Rattle.pulses.specs.declared.filtering.Filter.{Filter}
use Rattle.pulses.specs.declared.following.QuietFollower.{QuietFollower}
use Rattle.pulses.specs.declared.wires.First.{First}
use Rattle.pulses.specs.declared.wires.First.TheVariants as first
use Rattle.pulses.specs.declared.wires.Wire.{Wire}
use Rattle.pulses.specs.Filtering.{behind, to_come}
use Rattle.pulses.specs.Following.{handed_on, HandsOn, HasHandedOut, NoneHasEnded}
use Rattle.pulses.specs.Pulses.{Line, scl, sda, keeps, level_at, Levels, levels_in, before, quiet, quiet_from}
use Rattle.pulses.specs.Wires.{begun, coming, GoesOn, settled}
use Rattle.pulses.proofs.ComingLemmas.{quiet_next}
use Rattle.pulses.proofs.LevelLemmas.{alike, no_sample}
use Rattle.pulses.proofs.RunLemmas.{settled_ended}

-- ---- a sample that comes at once, with the levels that go on, ends each run that has not lasted

either : (b : Bool) (x y : Level) → x ≡ y → (if b then x else y) ≡ y
either true x y e = e
either false x y e = refl

settled_back : (line : Line) (wire : Wire) (s : Sample) (more : List Sample) → line s ≡ wire.kept → GoesOn wire → settled line wire s.time (s ∷ more) ≡ wire.kept
settled_back line wire s more e g = go (same_level wire.level (line s)) refl
  where
    go : (b : Bool) → same_level wire.level (line s) ≡ b → settled line wire s.time (s ∷ more) ≡ wire.kept
    go true q = either (keeps line wire.level wire.missing s.time (s ∷ more)) wire.level wire.kept (alike wire.level (line s) q ∙ e)
    go false q = settled_ended line wire s more q g

level_back : (least : ℕ) (line : Line) (old : Level) (s : Sample) (more : List Sample) → level_at least line old (line s) s more ≡ line s
level_back least line old s more = go (same_level old (line s)) (keeps line (line s) least s.time more)
  where
    go : (a b : Bool) → (if a then line s else if b then line s else line s) ≡ line s
    go true b = refl
    go false true = refl
    go false false = refl

abbrev kept_by : Wire → Wire → Levels
kept_by a b = record { scl = a.kept; sda = b.kept }

begun_back : (which : First) (a b : Wire) (samples : List Sample) → begun which a b (kept_by a b) samples ≡ samples
begun_back first.Both a b samples = no_sample (kept_by a b) a.from samples
begun_back first.Scl a b samples = no_sample (kept_by a b) a.from _ ∙ no_sample (kept_by a b) b.from samples
begun_back first.Sda a b samples = no_sample (kept_by a b) b.from _ ∙ no_sample (kept_by a b) a.from samples

abbrev back : Wire → Wire → ℕ → Sample
back a b now = record { time = now; scl = a.kept; sda = b.kept }

coming_back : (least : ℕ) (which : First) (a b : Wire) (now : ℕ) (more : List Sample) → GoesOn a → GoesOn b → coming least which a b now (back a b now ∷ more) ≡ quiet_from least (kept_by a b) (kept_by a b) more
coming_back least which a b now more g h =
    ap (λ (x : Level). with_end (record { scl = x; sda = settled sda b now (back a b now ∷ more) })) (settled_back scl a (back a b now) more refl g)
    ∙ (ap (λ (y : Level). with_end (record { scl = a.kept; sda = y })) (settled_back sda b (back a b now) more refl h)
    ∙ (begun_back which a b _
    ∙ (quiet_next least (record { scl = a.level; sda = b.level }) (kept_by a b) (kept_by a b) (back a b now) more (level_back least scl a.level (back a b now) more) (level_back least sda b.level (back a b now) more)
    ∙ no_sample (kept_by a b) now _)))
  where
    with_end : Levels → List Sample
    with_end levels = begun which a b levels (quiet_from least (record { scl = a.level; sda = b.level }) levels (back a b now ∷ more))

-- ---- samples in which the bus is lost, and each run lasts

abbrev lost : ℕ → Sample
lost time = record { time = time; scl = Unknown; sda = Unknown }

abbrev low : ℕ → Sample
low time = record { time = time; scl = Low; sda = Low }

abbrev last_two : ℕ → ℕ → List Sample
last_two least time = low (time + least) ∷ lost (time + least + least) ∷ []

abbrev all_three : ℕ → ℕ → List Sample
all_three least time = lost time ∷ last_two least time

long_enough : (least now : ℕ) → nat_le least ((now + least) - now) ≡ true
long_enough least now = grind (arith, nat_tests)

keeps_long : (line : Line) (level : Level) (least now : ℕ) (s : Sample) (more : List Sample) → s.time ≡ now + least → keeps line level least now (s ∷ more) ≡ true
keeps_long line level least now s more e = rw (e, long_enough least now)

level_new : (least : ℕ) (line : Line) (old : Level) (s : Sample) (more : List Sample) → keeps line (line s) least s.time more ≡ true → level_at least line old old s more ≡ line s
level_new least line old s more e = go (same_level old (line s)) refl
  where
    go : (b : Bool) → same_level old (line s) ≡ b → level_at least line old old s more ≡ line s
    go true q = rw q (alike old (line s) q)
    go false q = rw (q, e)

next_lasts : (least : ℕ) (levels : Levels) (s : Sample) (more : List Sample) → keeps scl s.scl least s.time more ≡ true → keeps sda s.sda least s.time more ≡ true → quiet_from least levels levels (s ∷ more) ≡ before levels (levels_in s) s.time (quiet_from least (levels_in s) (levels_in s) more)
next_lasts least levels s more e f =
    quiet_next least levels levels (levels_in s) s more (level_new least scl levels.scl s more e) (level_new least sda levels.sda s more f)

two_left : (least time : ℕ) → quiet_from least (levels_in (lost time)) (levels_in (lost time)) (last_two least time) ≡ last_two least time
two_left least time =
    let last : Sample = lost (time + least + least) in
    next_lasts least (levels_in (lost time)) (low (time + least)) (last ∷ []) (keeps_long scl Low least (time + least) last [] refl) (keeps_long sda Low least (time + least) last [] refl)
    ∙ ap (λ (samples : List Sample). low (time + least) ∷ samples) (next_lasts least (levels_in (low time)) last [] refl refl)

all_left : (least time : ℕ) (levels : Levels) → quiet_from least levels levels (all_three least time) ≡ before levels (levels_in (lost time)) time (last_two least time)
all_left least time levels =
    let next : Sample = low (time + least) in
    let last : List Sample = lost (time + least + least) ∷ [] in
    next_lasts least levels (lost time) (next ∷ last) (keeps_long scl Unknown least time next last refl) (keeps_long sda Unknown least time next last refl)
    ∙ ap (λ (samples : List Sample). before levels (levels_in (lost time)) time samples) (two_left least time)

-- ---- then a transaction that goes on is cut

abbrev first_until : List Recorded → Until
first_until [] = ending.Unfinished
first_until (t ∷ ts) = t.until

-- a transaction that goes on ends in these samples, and not only with the capture
abbrev Ends : List Sample → Type 0
Ends samples = (from : ℕ) (marks : List Mark) (seen : Seen) → first_until (transactions_from (busy from marks) (events_from seen samples)) ≡ ending.Unfinished → ⊥

two_known : (from : ℕ) (marks : List Mark) (scl sda moved : Bool) (a b : ℕ) → first_until (transactions_from (busy from marks) (events_from (record { lines = Some (record { scl = scl; sda = sda }); moved = moved }) (low a ∷ lost b ∷ []))) ≡ ending.Unfinished → ⊥
two_known from marks false sda moved a b e = cc
two_known from marks true sda true a b e = cc
two_known from marks true sda false a b e = cc

two_end : (from : ℕ) (marks : List Mark) (lines : Option Lines) (moved : Bool) (a b : ℕ) → first_until (transactions_from (busy from marks) (events_from (record { lines = lines; moved = moved }) (low a ∷ lost b ∷ []))) ≡ ending.Unfinished → ⊥
two_end from marks None moved a b e = cc
two_end from marks (Some known) moved a b e = two_known from marks known.scl known.sda moved a b e

all_end : (from : ℕ) (marks : List Mark) (lines : Option Lines) (moved : Bool) (time a b : ℕ) → first_until (transactions_from (busy from marks) (events_from (record { lines = lines; moved = moved }) (lost time ∷ low a ∷ lost b ∷ []))) ≡ ending.Unfinished → ⊥
all_end from marks None moved time a b e = two_end from marks None moved a b e
all_end from marks (Some old) moved time a b e = cc

three_end : (least time : ℕ) → Ends (all_three least time)
three_end least time from marks seen e = all_end from marks seen.lines seen.moved time (time + least) (time + least + least) e

some_end : (least time : ℕ) (b : Bool) → Ends (if b then last_two least time else all_three least time)
some_end least time true from marks seen e = two_end from marks seen.lines seen.moved (time + least) (time + least + least) e
some_end least time false from marks seen e = three_end least time from marks seen e

-- ---- both are among the continuations

abbrev NoneHanded : Option Filter → Type 0
NoneHanded filter = (more : List Sample) × (handed_on filter more ≡ [])

abbrev EndHanded : Option Filter → Type 0
EndHanded filter = (more : List Sample) × Ends (handed_on filter more)

ends_as : (a b : List Sample) → a ≡ b → Ends b → Ends a
ends_as a b e ends = subst Ends (sym e) ends

quiet_none : (least : ℕ) → quiet least [] ≡ []
quiet_none least = go (least == 0)
  where
    go : (b : Bool) → (if◌then◌else◌ {A = List Sample} b [] []) ≡ []
    go true = refl
    go false = refl

quiet_all : (least : ℕ) → quiet least (all_three least 0) ≡ all_three least 0
quiet_all least = go (least == 0)
  where
    go : (b : Bool) → (if b then all_three least 0 else lost 0 ∷ quiet_from least (levels_in (lost 0)) (levels_in (lost 0)) (last_two least 0)) ≡ all_three least 0
    go true = refl
    go false = ap (λ (samples : List Sample). lost 0 ∷ samples) (two_left least 0)

module _ (f : Filter) where
  if_begun : (more : List Sample) → f.begun ≡ true → behind f more ≡ to_come f more
  if_begun more e = rw e

  if_not : (more : List Sample) → f.begun ≡ false → behind f more ≡ quiet f.least more
  if_not more e = rw e

  filter_none : (b : Bool) → f.begun ≡ b → HandsOn (Some f) → NoneHanded (Some f)
  filter_none true e on =
      let more : List Sample = back f.scl f.sda f.time ∷ [] in
      (more, if_begun more e ∙ coming_back f.least f.first f.scl f.sda f.time [] (on e).1 (on e).2)
  filter_none false e on = ([], if_not [] e ∙ quiet_none f.least)

  filter_end : (b : Bool) → f.begun ≡ b → HandsOn (Some f) → EndHanded (Some f)
  filter_end true e on =
      let three : List Sample = all_three f.least f.time in
      let more : List Sample = back f.scl f.sda f.time ∷ three in
      let left : List Sample = before (kept_by f.scl f.sda) (levels_in (lost f.time)) f.time (last_two f.least f.time) in
      let same : behind f more ≡ left = if_begun more e ∙ (coming_back f.least f.first f.scl f.sda f.time three (on e).1 (on e).2 ∙ all_left f.least f.time (kept_by f.scl f.sda)) in
      (more, ends_as (behind f more) left same (some_end f.least f.time (same_level f.scl.kept Unknown && same_level f.sda.kept Unknown)))
  filter_end false e on =
      let three : List Sample = all_three f.least 0 in
      (three, ends_as (behind f three) three (if_not three e ∙ quiet_all f.least) (three_end f.least 0))

none_handed : (filter : Option Filter) → HandsOn filter → NoneHanded filter
none_handed None on = ([], refl)
none_handed (Some f) on = filter_none f f.begun refl on

end_handed : (filter : Option Filter) → HandsOn filter → EndHanded filter
end_handed None on = (all_three 0 0, three_end 0 0)
end_handed (Some f) on = filter_end f f.begun refl on

-- ---- so none comes first in both

not_in_both : (bus : Bus) (seen : Seen) (samples : List Sample) (t : Recorded) (later others : List Recorded) → Ends samples → transactions_from bus [] ≡ t ∷ later → transactions_from bus (events_from seen samples) ≡ t ∷ others → ⊥
not_in_both unknown seen samples t later others ends e f = cc
not_in_both free seen samples t later others ends e f = cc
not_in_both (busy from marks) seen samples t later others ends e f =
    ends from marks seen (ap first_until f ∙ sym (ap first_until e))

pub none_has_ended : (f : QuietFollower) → HasHandedOut f → NoneHasEnded f
none_has_ended f on t first =
    let place = place_of f.follower in
    let none = none_handed f.filter on in
    let end = end_handed f.filter on in
    not_in_both place.bus place.seen (handed_on f.filter end.0) t (first none.0).0 (first end.0).0 end.1
    (sym (ap (λ (samples : List Sample). transactions_from place.bus (events_from place.seen samples)) none.1) ∙ (first none.0).1)
    (first end.0).1
