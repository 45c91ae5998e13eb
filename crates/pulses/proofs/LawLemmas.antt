-- What is left of samples without their short runs, sample by sample.
use Rattle.std.proofs.Common.{◌≡◌, ◌≢◌, ℕ, ◌+◌, ◌-◌, ◌≤◌, zero, suc, Bool, true, false, ◌&&◌, ◌==◌, nat_le, List, [], ◌∷◌, ◌++◌, refl, ap, arith, subst, sym, ◌∙◌, if◌then◌else◌}
use Rattle.std.proofs.lemmas.Bool.Decides.{nat_tests}
use Rattle.vcd_read.specs.declared.samples.Level.{Level}
use Rattle.vcd_read.specs.declared.samples.Sample.{Sample}
use Rattle.vcd_read.specs.Changes.{same_level}
use Rattle.pulses.specs.Laws.{AreInOrder, AreChanges, Lasts, HasNoShortRun}
use Rattle.pulses.specs.Pulses.{Line, scl, sda, keeps, level_at, Levels, levels_in, before, quiet_from, quiet_behind_first, quiet}
use Rattle.pulses.proofs.ComingLemmas.{quiet_next}
use Rattle.pulses.proofs.LevelLemmas.{same, alike}

-- ---- samples, one after the other

-- they come in order, from this time on
abbrev OrderedFrom : ℕ → List Sample → Type 0
OrderedFrom time [] = Unit {0}
OrderedFrom time (s ∷ more) = (time ≤ s.time) × OrderedFrom s.time more

-- those at which the line has another level come at this time or later
abbrev Holds : Line → Level → ℕ → List Sample → Type 0
Holds line level time [] = Unit {0}
Holds line level time (s ∷ more) = (line s ≢ level → time ≤ s.time) × Holds line level time more

-- each run of the line that begins in one of them lasts, where the line had this level before
abbrev Calm : ℕ → Line → Level → List Sample → Type 0
Calm least line level [] = Unit {0}
Calm least line level (s ∷ more) =
    (level ≢ line s → Holds line (line s) (s.time + least) more) × Calm least line (line s) more

-- each of them has a change, where these were the levels before
abbrev Differ : Levels → List Sample → Type 0
Differ levels [] = Unit {0}
Differ levels (s ∷ more) = (levels.scl ≡ s.scl → levels.sda ≡ s.sda → ⊥) × Differ (levels_in s) more

ordered : (a : Sample) (more : List Sample) → AreInOrder (a ∷ more) → OrderedFrom a.time more
ordered a [] order = tt
ordered a (b ∷ more) order =
    (order [] more a b refl, ordered b more (λ front rest x y e. order (a ∷ front) rest x y (ap (λ (l : List Sample). a ∷ l) e)))

differing : (a : Sample) (more : List Sample) → AreChanges (a ∷ more) → Differ (levels_in a) more
differing a [] changes = tt
differing a (b ∷ more) changes =
    (changes [] more a b refl, differing b more (λ front rest x y e. changes (a ∷ front) rest x y (ap (λ (l : List Sample). a ∷ l) e)))

holding : (line : Line) (least : ℕ) (a : Sample) (more : List Sample) → Lasts least line a more → Holds line (line a) (a.time + least) more
holding line least a [] lasts = tt
holding line least a (b ∷ more) lasts =
    (lasts [] more b refl, holding line least a more (λ between rest s e. lasts (b ∷ between) rest s (ap (λ (l : List Sample). b ∷ l) e)))

calming : (line : Line) (least : ℕ) (a : Sample) (more : List Sample) → HasNoShortRun least line (a ∷ more) → Calm least line (line a) more
calming line least a [] none = tt
calming line least a (b ∷ more) none = (
  λ n. holding line least b more (none [] more a b refl n),
  calming line least b more (λ front rest x y e. none (a ∷ front) rest x y (ap (λ (l : List Sample). a ∷ l) e)),
)

-- and back, for what is said of what is left
lasting_at : (line : Line) (level : Level) (time : ℕ) (between rest : List Sample) (s : Sample) → Holds line level time (between ++ (s ∷ rest)) → line s ≢ level → time ≤ s.time
lasting_at line level time [] rest s holds = holds.0
lasting_at line level time (x ∷ between) rest s holds = lasting_at line level time between rest s holds.1

lasts : (line : Line) (least : ℕ) (a : Sample) (more : List Sample) → Holds line (line a) (a.time + least) more → Lasts least line a more
lasts line least a more holds between rest s e =
    lasting_at line (line a) (a.time + least) between rest s (subst (Holds line (line a) (a.time + least)) e holds)

abbrev CalmAll : ℕ → Line → List Sample → Type 0
CalmAll least line [] = Unit {0}
CalmAll least line (s ∷ more) = Calm least line (line s) more

calm_rest : (line : Line) (least : ℕ) (s : Sample) (more : List Sample) → CalmAll least line (s ∷ more) → CalmAll least line more
calm_rest line least s [] calm = tt
calm_rest line least s (x ∷ more) calm = calm.1

calm_at : (line : Line) (least : ℕ) (front rest : List Sample) (a b : Sample) → CalmAll least line (front ++ (a ∷ (b ∷ rest))) → line a ≢ line b → Lasts least line b rest
calm_at line least [] rest a b calm n = lasts line least b rest (calm.0 n)
calm_at line least (x ∷ front) rest a b calm n = calm_at line least front rest a b (calm_rest line least x (front ++ (a ∷ (b ∷ rest))) calm) n

no_short_run : (line : Line) (least : ℕ) (samples : List Sample) → CalmAll least line samples → HasNoShortRun least line samples
no_short_run line least samples calm front rest a b e = calm_at line least front rest a b (subst (CalmAll least line) e calm)

-- ---- levels

no : true ≡ false → ⊥
no e = cc

-- where two levels are told apart
differs : (a b : Level) → same_level a b ≡ false → b ≢ a
differs a b e q = no (sym (same a) ∙ (ap (same_level a) (sym q) ∙ e))

are_same : (a b : Level) → a ≡ b → same_level a b ≡ true
are_same a b e = ap (same_level a) (sym e) ∙ same a

left_of : (a b : Bool) → (a && b) ≡ true → a ≡ true
left_of true b e = refl
left_of false b e = cc

right_of : (a b : Bool) → (a && b) ≡ true → b ≡ true
right_of true b e = e
right_of false b e = cc

levels_alike : (a b : Levels) → (same_level a.scl b.scl && same_level a.sda b.sda) ≡ true → a ≡ b
levels_alike a b e =
    let one : a.scl ≡ b.scl = alike a.scl b.scl (left_of (same_level a.scl b.scl) (same_level a.sda b.sda) e) in
    let two : a.sda ≡ b.sda = alike a.sda b.sda (right_of (same_level a.scl b.scl) (same_level a.sda b.sda) e) in
    ap (λ (x : Level). record { scl = x; sda = a.sda }) one ∙ ap (λ (y : Level). record { scl = b.scl; sda = y }) two

-- ---- runs that last

later : (line : Line) (level : Level) (time least : ℕ) (more : List Sample) → OrderedFrom time more → least ≤ time → Holds line level least more
later line level time least [] order e = tt
later line level time least (s ∷ more) order e =
    (λ n. omega (arith, order.0, e), later line level s.time least more order.1 (omega (arith, order.0, e)))

earlier : (time least : ℕ) (more : List Sample) → OrderedFrom time more → least ≤ time → OrderedFrom least more
earlier time least [] order e = tt
earlier time least (s ∷ more) order e = (omega (arith, order.0, e), order.1)

long_enough : (longer now t : ℕ) → now ≤ t → nat_le longer (t - now) ≡ true → now + longer ≤ t
long_enough longer now t e f = grind (arith, nat_tests)

what_is_left : (longer now t : ℕ) → now ≤ t → nat_le longer (t - now) ≡ false → t + (longer - (t - now)) ≡ now + longer
what_is_left longer now t e f = grind (arith, nat_tests)

too_short : (longer now t : ℕ) → now ≤ t → nat_le longer (t - now) ≡ false → now + longer ≤ t → ⊥
too_short longer now t e f g = grind (arith, nat_tests)

module _ (line : Line) (level : Level) where
  next_keeps : (longer now : ℕ) (s : Sample) (more : List Sample) (b c : Bool) → nat_le longer (s.time - now) ≡ b → same_level level (line s) ≡ c →
      keeps line level longer now (s ∷ more) ≡ (if b then true else if c then keeps line level (longer - (s.time - now)) s.time more else false)
  next_keeps longer now s more b c e f =
      ap (λ (x : Bool). if x then true else if same_level level (line s) then keeps line level (longer - (s.time - now)) s.time more else false) e
      ∙ ap (λ (x : Bool). if b then true else if x then keeps line level (longer - (s.time - now)) s.time more else false) f

  keeps_holds : (longer now : ℕ) (more : List Sample) → OrderedFrom now more → keeps line level longer now more ≡ true →
      Holds line level (now + longer) more
  keeps_holds longer now [] order k = tt
  keeps_holds longer now (s ∷ more) order k =
      by (nat_le longer (s.time - now)) refl (same_level level (line s)) refl
      (keeps_holds (longer - (s.time - now)) s.time more order.1)
    where
      by : (b : Bool) → nat_le longer (s.time - now) ≡ b → (c : Bool) → same_level level (line s) ≡ c →
          (keeps line level (longer - (s.time - now)) s.time more ≡ true → Holds line level (s.time + (longer - (s.time - now))) more) →
          Holds line level (now + longer) (s ∷ more)
      by true e c f rest =
          let long : now + longer ≤ s.time = long_enough longer now s.time order.0 e in
          (λ n. long, later line level s.time (now + longer) more order.1 long)
      by false e true f rest = (
        λ n. absurd (n (sym (alike level (line s) f))),
        subst (λ (t : ℕ). Holds line level t more) (what_is_left longer now s.time order.0 e)
            (rest (sym (next_keeps longer now s more false true e f) ∙ k)),
      )
      by false e false f rest = absurd (no (sym k ∙ next_keeps longer now s more false false e f))

  holds_keeps : (longer now : ℕ) (more : List Sample) → OrderedFrom now more → Holds line level (now + longer) more →
      keeps line level longer now more ≡ true
  holds_keeps longer now [] order h = refl
  holds_keeps longer now (s ∷ more) order h =
      by (nat_le longer (s.time - now)) refl (same_level level (line s)) refl
      (holds_keeps (longer - (s.time - now)) s.time more order.1)
    where
      by : (b : Bool) → nat_le longer (s.time - now) ≡ b → (c : Bool) → same_level level (line s) ≡ c →
          (Holds line level (s.time + (longer - (s.time - now))) more → keeps line level (longer - (s.time - now)) s.time more ≡ true) →
          keeps line level longer now (s ∷ more) ≡ true
      by true e c f rest = next_keeps longer now s more true c e f
      by false e true f rest =
          next_keeps longer now s more false true e f
          ∙ rest (subst (λ (t : ℕ). Holds line level t more) (sym (what_is_left longer now s.time order.0 e)) h.1)
      by false e false f rest = absurd (too_short longer now s.time order.0 e (h.0 (differs level (line s) f)))

-- the level that a line goes on with is the one it has, and that lasts, or the one it had
data Chosen (least : ℕ) (line : Line) (kept : Level) (s : Sample) (more : List Sample) (level : Level) : Type 0 where
  goes_on : level ≡ kept → Chosen least line kept s more level
  begins : level ≡ line s → keeps line (line s) least s.time more ≡ true → Chosen least line kept s more level

chosen : (least : ℕ) (line : Line) (old kept : Level) (s : Sample) (more : List Sample) → Chosen least line kept s more (level_at least line old kept s more)
chosen least line old kept s more = by (same_level old (line s)) refl (keeps line (line s) least s.time more) refl
  where
    next_level : (b c : Bool) → same_level old (line s) ≡ b → keeps line (line s) least s.time more ≡ c →
        level_at least line old kept s more ≡ (if b then kept else if c then line s else kept)
    next_level b c e f =
        ap (λ (x : Bool). if x then kept else if keeps line (line s) least s.time more then line s else kept) e
        ∙ ap (λ (x : Bool). if b then kept else if x then line s else kept) f

    by : (b : Bool) → same_level old (line s) ≡ b → (c : Bool) → keeps line (line s) least s.time more ≡ c → Chosen least line kept s more (level_at least line old kept s more)
    by true e c f = goes_on (next_level true c e f)
    by false e true f = begins (next_level false true e f) f
    by false e false f = goes_on (next_level false false e f)

-- ---- what is left

abbrev next : ℕ → (old kept : Levels) → Sample → List Sample → Levels
next least old kept s more = record {
  scl = level_at least scl old.scl kept.scl s more;
  sda = level_at least sda old.sda kept.sda s more;
}

abbrev sample_at : ℕ → Levels → Sample
sample_at time levels = record { time = time; scl = levels.scl; sda = levels.sda }

-- what holds of the samples with a change before them, where there is one, and without it
by_change : (P : List Sample → Type 0) (old new : Levels) (time : ℕ) (more : List Sample) →
    ((same_level old.scl new.scl && same_level old.sda new.sda) ≡ true → P more) →
    ((same_level old.scl new.scl && same_level old.sda new.sda) ≡ false → P (sample_at time new ∷ more)) →
    P (before old new time more)
by_change P old new time more without with_it = by (same_level old.scl new.scl && same_level old.sda new.sda) refl
  where
    by : (b : Bool) → (same_level old.scl new.scl && same_level old.sda new.sda) ≡ b → P (if b then more else sample_at time new ∷ more)
    by true e = without e
    by false e = with_it e

ordered_out : (least time : ℕ) (old kept : Levels) (samples : List Sample) → OrderedFrom time samples → OrderedFrom time (quiet_from least old kept samples)
ordered_out least time old kept [] order = tt
ordered_out least time old kept (s ∷ more) order =
    let new : Levels = next least old kept s more in
    let out : OrderedFrom s.time (quiet_from least (levels_in s) new more) = ordered_out least s.time (levels_in s) new more order.1 in
    by_change (OrderedFrom time) kept new s.time (quiet_from least (levels_in s) new more)
    (λ e. earlier s.time time (quiet_from least (levels_in s) new more) out order.0) (λ e. (order.0, out))

differ_out : (least : ℕ) (old kept : Levels) (samples : List Sample) → Differ kept (quiet_from least old kept samples)
differ_out least old kept [] = tt
differ_out least old kept (s ∷ more) =
    let new : Levels = next least old kept s more in
    let out : Differ new (quiet_from least (levels_in s) new more) = differ_out least (levels_in s) new more in
    by_change (Differ kept) kept new s.time (quiet_from least (levels_in s) new more)
    (λ e. subst (λ (l : Levels). Differ l (quiet_from least (levels_in s) new more)) (sym (levels_alike kept new e)) out)
    (λ e. (λ one two. no (sym (ap (λ (b : Bool). b && same_level kept.sda new.sda) (are_same kept.scl new.scl one) ∙ are_same kept.sda new.sda two) ∙ e), out))

-- one of the two lines, in samples and in levels
record Side : Type 0 where
  line : Line
  pick : Levels → Level
  of_sample : (time : ℕ) (levels : Levels) → line (sample_at time levels) ≡ pick levels
  choice : (least : ℕ) (old kept : Levels) (s : Sample) (more : List Sample) → Chosen least line (pick kept) s more (pick (next least old kept s more))

abbrev scl_side : Side
scl_side = record {
  line = scl;
  pick = λ l. l.scl;
  of_sample = λ time levels. refl;
  choice = λ least old kept s more. chosen least scl old.scl kept.scl s more;
}

abbrev sda_side : Side
sda_side = record {
  line = sda;
  pick = λ l. l.sda;
  of_sample = λ time levels. refl;
  choice = λ least old kept s more. chosen least sda old.sda kept.sda s more;
}

module _ (side : Side) (least : ℕ) where
  -- a sample with these levels, and others after it: those at which the line has another level come at this time or later
  abbrev BothHold : Level → (until time : ℕ) → Levels → List Sample → Type 0
  BothHold level until time new out = (side.pick new ≢ level → until ≤ time) × Holds side.line level until out

  -- where other levels come late, they come late in what is left
  stays : (level : Level) (until time : ℕ) (old kept : Levels) (samples : List Sample) → OrderedFrom time samples →
      Holds side.line level until samples → side.pick kept ≡ level →
      Holds side.line level until (quiet_from least old kept samples)
  stays level until time old kept [] order holds e = tt
  stays level until time old kept (s ∷ more) order holds e =
      with_it (by (same_level level (side.line s)) refl (side.choice least old kept s more)
      (stays level until s.time (levels_in s) (next least old kept s more) more order.1 holds.1))
    where
      new : Levels
      new = next least old kept s more

      out : List Sample
      out = quiet_from least (levels_in s) new more

      late : until ≤ s.time → BothHold level until s.time new out
      late enough =
          (λ n. enough, later side.line level s.time until out (ordered_out least s.time (levels_in s) new more order.1) enough)

      by : (b : Bool) → same_level level (side.line s) ≡ b → Chosen least side.line (side.pick kept) s more (side.pick new) →
          (side.pick new ≡ level → Holds side.line level until out) → BothHold level until s.time new out
      by b f (goes_on is) rest = (λ n. absurd (n (is ∙ e)), rest (is ∙ e))
      by true f (begins is k) rest =
          let on : side.pick new ≡ level = is ∙ sym (alike level (side.line s) f) in
          (λ n. absurd (n on), rest on)
      by false f (begins is k) rest = late (holds.0 (differs level (side.line s) f))

      with_it : BothHold level until s.time new out → Holds side.line level until (before kept new s.time out)
      with_it them = by_change (Holds side.line level until) kept new s.time out
          (λ f. them.1) (λ f. (λ n. them.0 (λ p. n (side.of_sample s.time new ∙ p)), them.1))

  calm_out : (time : ℕ) (old kept : Levels) (samples : List Sample) → OrderedFrom time samples →
      Calm least side.line (side.pick kept) (quiet_from least old kept samples)
  calm_out time old kept [] order = tt
  calm_out time old kept (s ∷ more) order =
      with_it (calm_out s.time (levels_in s) (next least old kept s more) more order.1)
    where
      new : Levels
      new = next least old kept s more

      out : List Sample
      out = quiet_from least (levels_in s) new more

      by : Chosen least side.line (side.pick kept) s more (side.pick new) → side.pick new ≢ side.pick kept →
          Holds side.line (side.pick new) (s.time + least) out
      by (goes_on is) n = absurd (n is)
      by (begins is k) n =
          subst (λ (l : Level). Holds side.line l (s.time + least) out) (sym is)
          (stays (side.line s) (s.time + least) s.time (levels_in s) new more order.1
          (keeps_holds side.line (side.line s) least s.time more order.1 k) is)

      holds : side.pick new ≢ side.pick kept → Holds side.line (side.line (sample_at s.time new)) (s.time + least) out
      holds n =
          subst (λ (l : Level). Holds side.line l (s.time + least) out) (sym (side.of_sample s.time new))
          (by (side.choice least old kept s more) n)

      with_it : Calm least side.line (side.pick new) out → Calm least side.line (side.pick kept) (before kept new s.time out)
      with_it calm = by_change (Calm least side.line (side.pick kept)) kept new s.time out
          (λ e. subst (λ (l : Level). Calm least side.line l out) (sym (ap side.pick (levels_alike kept new e))) calm)
          (λ e. (
            λ n. holds (λ p. n (sym (side.of_sample s.time new ∙ p))),
            subst (λ (l : Level). Calm least side.line l out) (sym (side.of_sample s.time new)) calm,
          ))

-- ---- samples without short runs

on_level : (least : ℕ) (line : Line) (level : Level) (s : Sample) (more : List Sample) → OrderedFrom s.time more → Calm least line level (s ∷ more) → level_at least line level level s more ≡ line s
on_level least line level s more order calm = by (same_level level (line s)) refl
  where
    by : (b : Bool) → same_level level (line s) ≡ b → level_at least line level level s more ≡ line s
    by true e = ap (λ (x : Bool). if x then level else if keeps line (line s) least s.time more then line s else level) e ∙ alike level (line s) e
    by false e =
        ap (λ (x : Bool). if x then level else if keeps line (line s) least s.time more then line s else level) e
        ∙ ap (λ (x : Bool). if x then line s else level) (holds_keeps line (line s) least s.time more order (calm.0 (λ p. differs level (line s) e (sym p))))

changed : (a : Levels) (s : Sample) (more : List Sample) → (a.scl ≡ s.scl → a.sda ≡ s.sda → ⊥) → before a (levels_in s) s.time more ≡ s ∷ more
changed a s more n = by_change (λ (l : List Sample). l ≡ s ∷ more) a (levels_in s) s.time more
    (λ e. absurd (n (ap (λ (l : Levels). l.scl) (levels_alike a (levels_in s) e)) (ap (λ (l : Levels). l.sda) (levels_alike a (levels_in s) e))))
    (λ e. refl)

unchanged_from : (least : ℕ) (a : Sample) (more : List Sample) → OrderedFrom a.time more → Differ (levels_in a) more →
    Calm least scl a.scl more → Calm least sda a.sda more → quiet_from least (levels_in a) (levels_in a) more ≡ more
unchanged_from least a [] order differ calm_scl calm_sda = refl
unchanged_from least a (s ∷ more) order differ calm_scl calm_sda =
    quiet_next least (levels_in a) (levels_in a) (levels_in s) s more
    (on_level least scl a.scl s more order.1 calm_scl) (on_level least sda a.sda s more order.1 calm_sda)
    ∙ (changed (levels_in a) s (quiet_from least (levels_in s) (levels_in s) more) differ.0
    ∙ ap (λ (l : List Sample). s ∷ l) (unchanged_from least s more order.1 differ.1 calm_scl.1 calm_sda.1))

-- ---- the laws

not_zero : (n : ℕ) → (suc n == 0) ≡ false
not_zero n = grind (arith, nat_tests)

quiet_is : (n : ℕ) (samples : List Sample) → quiet (suc n) samples ≡ quiet_behind_first (suc n) samples
quiet_is n samples = ap (λ (b : Bool). if b then samples else quiet_behind_first (suc n) samples) (not_zero n)

pub unchanged : (least : ℕ) (samples : List Sample) → AreInOrder samples → AreChanges samples →
    HasNoShortRun least scl samples → HasNoShortRun least sda samples → quiet least samples ≡ samples
unchanged zero samples order changes on_scl on_sda = refl
unchanged (suc n) [] order changes on_scl on_sda = quiet_is n []
unchanged (suc n) (a ∷ more) order changes on_scl on_sda =
    quiet_is n (a ∷ more)
    ∙ ap (λ (l : List Sample). a ∷ l)
    (unchanged_from (suc n) a more (ordered a more order) (differing a more changes) (calming scl (suc n) a more on_scl)
    (calming sda (suc n) a more on_sda))

-- no run lasts less than 0
calm_at_once : (line : Line) (level : Level) (time : ℕ) (samples : List Sample) → OrderedFrom time samples → Calm 0 line level samples
calm_at_once line level time [] order = tt
calm_at_once line level time (s ∷ more) order =
    (λ n. later line (line s) s.time (s.time + 0) more order.1 (omega arith), calm_at_once line (line s) s.time more order.1)

all_calm : (side : Side) (in_sample : (a : Sample) → side.pick (levels_in a) ≡ side.line a) (least : ℕ) (samples : List Sample) →
    AreInOrder samples → CalmAll least side.line (quiet least samples)
all_calm side in_sample zero [] order = tt
all_calm side in_sample zero (a ∷ more) order = calm_at_once side.line (side.line a) a.time more (ordered a more order)
all_calm side in_sample (suc n) [] order = subst (CalmAll (suc n) side.line) (sym (quiet_is n [])) tt
all_calm side in_sample (suc n) (a ∷ more) order =
    subst (CalmAll (suc n) side.line) (sym (quiet_is n (a ∷ more)))
    (subst (λ (l : Level). Calm (suc n) side.line l (quiet_from (suc n) (levels_in a) (levels_in a) more)) (in_sample a)
    (calm_out side (suc n) a.time (levels_in a) (levels_in a) more (ordered a more order)))

pub lasting : (least : ℕ) (samples : List Sample) → AreInOrder samples →
    HasNoShortRun least scl (quiet least samples) × HasNoShortRun least sda (quiet least samples)
lasting least samples order = (
  no_short_run scl least (quiet least samples) (all_calm scl_side (λ a. refl) least samples order),
  no_short_run sda least (quiet least samples) (all_calm sda_side (λ a. refl) least samples order),
)

once_behind : (least : ℕ) (samples : List Sample) → AreInOrder samples →
    quiet_behind_first least (quiet_behind_first least samples) ≡ quiet_behind_first least samples
once_behind least [] order = refl
once_behind least (a ∷ more) order =
    let out : List Sample = quiet_from least (levels_in a) (levels_in a) more in
    let follow : OrderedFrom a.time more = ordered a more order in
    ap (λ (l : List Sample). a ∷ l)
    (unchanged_from least a out (ordered_out least a.time (levels_in a) (levels_in a) more follow)
    (differ_out least (levels_in a) (levels_in a) more)
    (calm_out scl_side least a.time (levels_in a) (levels_in a) more follow)
    (calm_out sda_side least a.time (levels_in a) (levels_in a) more follow))

pub once : (least : ℕ) (samples : List Sample) → AreInOrder samples → quiet least (quiet least samples) ≡ quiet least samples
once zero samples order = refl
once (suc n) samples order =
    ap (quiet (suc n)) (quiet_is n samples)
    ∙ (quiet_is n (quiet_behind_first (suc n) samples) ∙ (once_behind (suc n) samples order ∙ sym (quiet_is n samples)))
