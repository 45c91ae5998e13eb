-- What is to come of two lines, from sample to sample.
use Rattle.std.proofs.Common.{◌≡◌, ◌≢◌, ℕ, ◌-◌, ◌≤◌, Bool, true, false, ◌&&◌, ◌||◌, List, [], ◌∷◌, refl, ap, arith, subst, sym, ◌∙◌, ◌++◌, append_assoc}
use Rattle.std.proofs.lemmas.Bool.Decides.{nat_tests}
use Rattle.vcd_read.specs.declared.samples.Level.{Level}
use Rattle.vcd_read.specs.declared.samples.Sample.{Sample}
use Rattle.vcd_read.specs.Changes.{same_level}
use Rattle.pulses.specs.declared.wires.First.{First}
use Rattle.pulses.specs.declared.wires.First.TheVariants as first
use Rattle.pulses.specs.declared.wires.Wire.{Wire}
use Rattle.pulses.specs.Pulses.{scl, sda, Levels, levels_in, level_at, before, quiet_from}
use Rattle.pulses.specs.Wires.{after, begun, coming, going_on, GoesOn, is_due, settled, with_run}
use Rattle.pulses.proofs.LevelLemmas.{alike, no_sample, scl_differs, sda_differs}
use Rattle.pulses.proofs.RunLemmas.{settled_later, settled_on, settled_lasted, settled_ended, level_on, level_changed}

-- ---- time passes

begun_later : (p : ℕ) (which : First) (a b : Wire) (end : Levels) (samples : List Sample) → begun which (after p a) (after p b) end samples ≡ begun which a b end samples
begun_later p first.Both a b end samples = refl
begun_later p first.Scl a b end samples = refl
begun_later p first.Sda a b end samples = refl

pub coming_later : (least : ℕ) (which : First) (a b c d : Wire) (p now time : ℕ) (s : Sample) (more : List Sample) → c ≡ after p a → d ≡ after p b → p ≡ time - now → s.time ≡ time → coming least which c d time (s ∷ more) ≡ coming least which a b now (s ∷ more)
coming_later least which a b c d p now time s more e f g h =
    ap (λ (x : Wire). coming least which x d time (s ∷ more)) e
    ∙ (ap (λ (y : Wire). coming least which (after p a) y time (s ∷ more)) f
    ∙ (ap (λ (q : ℕ). coming least which (after q a) (after q b) time (s ∷ more)) g
    ∙ subst (λ (t : ℕ). coming least which (after (t - now) a) (after (t - now) b) t (s ∷ more) ≡ coming least which a b now (s ∷ more)) h at_once))
  where
    with_end : Levels → List Sample
    with_end end = begun which a b end (quiet_from least (record { scl = a.level; sda = b.level }) end (s ∷ more))

    at_once : coming least which (after (s.time - now) a) (after (s.time - now) b) s.time (s ∷ more) ≡ coming least which a b now (s ∷ more)
    at_once =
        begun_later (s.time - now) which a b _ _
        ∙ (ap (λ (x : Level). with_end (record { scl = x; sda = settled sda (after (s.time - now) b) s.time (s ∷ more) })) (settled_later scl a now s more)
        ∙ ap (λ (y : Level). with_end (record { scl = settled scl a now (s ∷ more); sda = y })) (settled_later sda b now s more))

-- ---- runs begin and last

-- what is before the last sample, where the run of SDA has been dropped
begun_scl : (which : First) (a b : Wire) (x : Level) (samples : List Sample) → begun which a b (record { scl = x; sda = b.kept }) samples ≡ before (record { scl = a.kept; sda = b.kept }) (record { scl = x; sda = b.kept }) a.from samples
begun_scl first.Both a b x samples = refl
begun_scl first.Scl a b x samples = ap (λ (them : List Sample). before (record { scl = a.kept; sda = b.kept }) (record { scl = x; sda = b.kept }) a.from them) (no_sample (record { scl = x; sda = b.kept }) b.from samples)
begun_scl first.Sda a b x samples = no_sample (record { scl = a.kept; sda = b.kept }) b.from _

-- and where that of SCL has been dropped
begun_sda : (which : First) (a b : Wire) (y : Level) (samples : List Sample) → (which ≡ first.Both → a.from ≡ b.from) → begun which a b (record { scl = a.kept; sda = y }) samples ≡ before (record { scl = a.kept; sda = b.kept }) (record { scl = a.kept; sda = y }) b.from samples
begun_sda first.Both a b y samples e = ap (λ (t : ℕ). before (record { scl = a.kept; sda = b.kept }) (record { scl = a.kept; sda = y }) t samples) (e refl)
begun_sda first.Scl a b y samples e = no_sample (record { scl = a.kept; sda = b.kept }) a.from _
begun_sda first.Sda a b y samples e = ap (λ (them : List Sample). before (record { scl = a.kept; sda = b.kept }) (record { scl = a.kept; sda = y }) b.from them) (no_sample (record { scl = a.kept; sda = y }) a.from samples)

-- the next sample, as the definition has it
pub quiet_next : (least : ℕ) (old kept new : Levels) (s : Sample) (more : List Sample) → level_at least scl old.scl kept.scl s more ≡ new.scl → level_at least sda old.sda kept.sda s more ≡ new.sda → quiet_from least old kept (s ∷ more) ≡ before kept new s.time (quiet_from least (levels_in s) new more)
quiet_next least old kept new s more e f =
    ap (λ (x : Level). before kept (record { scl = x; sda = level_at least sda old.sda kept.sda s more }) s.time (quiet_from least (levels_in s) (record { scl = x; sda = level_at least sda old.sda kept.sda s more }) more)) e
    ∙ ap (λ (y : Level). before kept (record { scl = new.scl; sda = y }) s.time (quiet_from least (levels_in s) (record { scl = new.scl; sda = y }) more)) f

-- neither line has another level in the next sample
both_on : (least : ℕ) (which : First) (a b : Wire) (s : Sample) (more : List Sample) → s.scl ≡ a.level → s.sda ≡ b.level → coming least which a b s.time more ≡ coming least which a b s.time (s ∷ more)
both_on least which a b s more e f = sym (
    ap (λ (x : Level). with_end (record { scl = x; sda = settled sda b s.time (s ∷ more) }) (s ∷ more)) (settled_on scl a s more e)
    ∙ (ap (λ (y : Level). with_end (record { scl = settled scl a s.time more; sda = y }) (s ∷ more)) (settled_on sda b s more f)
    ∙ ap (λ (samples : List Sample). begun which a b end samples) rest))
  where
    end : Levels
    end = record { scl = settled scl a s.time more; sda = settled sda b s.time more }

    with_end : Levels → List Sample → List Sample
    with_end levels samples = begun which a b levels (quiet_from least (record { scl = a.level; sda = b.level }) levels samples)

    rest : quiet_from least (record { scl = a.level; sda = b.level }) end (s ∷ more) ≡ quiet_from least (record { scl = a.level; sda = b.level }) end more
    rest =
        quiet_next least (record { scl = a.level; sda = b.level }) end end s more (level_on least scl a.level end.scl s more e) (level_on least sda b.level end.sda s more f)
        ∙ (no_sample end s.time _
        ∙ (ap (λ (x : Level). quiet_from least (record { scl = x; sda = s.sda }) end more) e
        ∙ ap (λ (y : Level). quiet_from least (record { scl = a.level; sda = y }) end more) f))

-- SDA has another level in it
sda_new : (least : ℕ) (which : First) (a b : Wire) (s : Sample) (more : List Sample) → s.scl ≡ a.level → same_level b.level s.sda ≡ false → GoesOn b → coming least first.Scl a (with_run b s.sda s.time least) s.time more ≡ coming least which a b s.time (s ∷ more)
sda_new least which a b s more e f g = sym (
    ap (λ (x : Level). with_end (record { scl = x; sda = settled sda b s.time (s ∷ more) })) (settled_on scl a s more e)
    ∙ (ap (λ (y : Level). with_end (record { scl = x; sda = y })) (settled_ended sda b s more f g)
    ∙ (begun_scl which a b x _
    ∙ ap (λ (samples : List Sample). before (record { scl = a.kept; sda = b.kept }) (record { scl = x; sda = b.kept }) a.from samples) rest)))
  where
    x : Level
    x = settled scl a s.time more

    y : Level
    y = settled sda (with_run b s.sda s.time least) s.time more

    with_end : Levels → List Sample
    with_end levels = begun which a b levels (quiet_from least (record { scl = a.level; sda = b.level }) levels (s ∷ more))

    rest : quiet_from least (record { scl = a.level; sda = b.level }) (record { scl = x; sda = b.kept }) (s ∷ more) ≡ before (record { scl = x; sda = b.kept }) (record { scl = x; sda = y }) s.time (quiet_from least (record { scl = a.level; sda = s.sda }) (record { scl = x; sda = y }) more)
    rest =
        quiet_next least (record { scl = a.level; sda = b.level }) (record { scl = x; sda = b.kept }) (record { scl = x; sda = y }) s more (level_on least scl a.level x s more e) (level_changed least sda b s more f)
        ∙ ap (λ (l : Level). before (record { scl = x; sda = b.kept }) (record { scl = x; sda = y }) s.time (quiet_from least (record { scl = l; sda = s.sda }) (record { scl = x; sda = y }) more)) e

-- SCL has another level in it
scl_new : (least : ℕ) (which : First) (a b : Wire) (s : Sample) (more : List Sample) → (which ≡ first.Both → a.from ≡ b.from) → same_level a.level s.scl ≡ false → s.sda ≡ b.level → GoesOn a → coming least first.Sda (with_run a s.scl s.time least) b s.time more ≡ coming least which a b s.time (s ∷ more)
scl_new least which a b s more from e f g = sym (
    ap (λ (x : Level). with_end (record { scl = x; sda = settled sda b s.time (s ∷ more) })) (settled_ended scl a s more e g)
    ∙ (ap (λ (y : Level). with_end (record { scl = a.kept; sda = y })) (settled_on sda b s more f)
    ∙ (begun_sda which a b y _ from
    ∙ ap (λ (samples : List Sample). before (record { scl = a.kept; sda = b.kept }) (record { scl = a.kept; sda = y }) b.from samples) rest)))
  where
    x : Level
    x = settled scl (with_run a s.scl s.time least) s.time more

    y : Level
    y = settled sda b s.time more

    with_end : Levels → List Sample
    with_end levels = begun which a b levels (quiet_from least (record { scl = a.level; sda = b.level }) levels (s ∷ more))

    rest : quiet_from least (record { scl = a.level; sda = b.level }) (record { scl = a.kept; sda = y }) (s ∷ more) ≡ before (record { scl = a.kept; sda = y }) (record { scl = x; sda = y }) s.time (quiet_from least (record { scl = s.scl; sda = b.level }) (record { scl = x; sda = y }) more)
    rest =
        quiet_next least (record { scl = a.level; sda = b.level }) (record { scl = a.kept; sda = y }) (record { scl = x; sda = y }) s more (level_changed least scl a s more e) (level_on least sda b.level y s more f)
        ∙ ap (λ (l : Level). before (record { scl = a.kept; sda = y }) (record { scl = x; sda = y }) s.time (quiet_from least (record { scl = s.scl; sda = l }) (record { scl = x; sda = y }) more)) f

-- both have
both_new : (least : ℕ) (which : First) (a b : Wire) (s : Sample) (more : List Sample) → same_level a.level s.scl ≡ false → same_level b.level s.sda ≡ false → GoesOn a → GoesOn b → coming least first.Both (with_run a s.scl s.time least) (with_run b s.sda s.time least) s.time more ≡ coming least which a b s.time (s ∷ more)
both_new least which a b s more e f g h = sym (
    ap (λ (x : Level). with_end (record { scl = x; sda = settled sda b s.time (s ∷ more) })) (settled_ended scl a s more e g)
    ∙ (ap (λ (y : Level). with_end (record { scl = a.kept; sda = y })) (settled_ended sda b s more f h)
    ∙ (begun_scl which a b a.kept _
    ∙ (no_sample (record { scl = a.kept; sda = b.kept }) a.from _ ∙ rest))))
  where
    x : Level
    x = settled scl (with_run a s.scl s.time least) s.time more

    y : Level
    y = settled sda (with_run b s.sda s.time least) s.time more

    with_end : Levels → List Sample
    with_end levels = begun which a b levels (quiet_from least (record { scl = a.level; sda = b.level }) levels (s ∷ more))

    rest : quiet_from least (record { scl = a.level; sda = b.level }) (record { scl = a.kept; sda = b.kept }) (s ∷ more) ≡ before (record { scl = a.kept; sda = b.kept }) (record { scl = x; sda = y }) s.time (quiet_from least (levels_in s) (record { scl = x; sda = y }) more)
    rest = quiet_next least (record { scl = a.level; sda = b.level }) (record { scl = a.kept; sda = b.kept }) (record { scl = x; sda = y }) s more (level_changed least scl a s more e) (level_changed least sda b s more f)

-- ---- the same, as the filter hears of them

pub coming_on : (least : ℕ) (which : First) (a b : Wire) (now : ℕ) (s : Sample) → now ≡ s.time → true ≡ same_level a.level s.scl → true ≡ same_level b.level s.sda → (more : List Sample) → coming least which a b now more ≡ coming least which a b now (s ∷ more)
coming_on least which a b now s e f g more =
    rw e (both_on least which a b s more (sym (alike a.level s.scl (sym f))) (sym (alike b.level s.sda (sym g))))

pub coming_sda : (least : ℕ) (which : First) (a b d : Wire) (now : ℕ) (s : Sample) → now ≡ s.time → d ≡ with_run b s.sda s.time least → true ≡ same_level a.level s.scl → false ≡ same_level b.level s.sda → GoesOn b → (more : List Sample) → coming least first.Scl a d now more ≡ coming least which a b now (s ∷ more)
coming_sda least which a b d now s e f g h go more =
    rw (e, f) (sda_new least which a b s more (sym (alike a.level s.scl (sym g))) (sym h) go)

pub coming_scl : (least : ℕ) (which : First) (a b c : Wire) (now : ℕ) (s : Sample) → now ≡ s.time → c ≡ with_run a s.scl s.time least → (which ≡ first.Both → a.from ≡ b.from) → false ≡ same_level a.level s.scl → true ≡ same_level b.level s.sda → GoesOn a → (more : List Sample) → coming least first.Sda c b now more ≡ coming least which a b now (s ∷ more)
coming_scl least which a b c now s e f from g h go more =
    rw (e, f) (scl_new least which a b s more from (sym g) (sym (alike b.level s.sda (sym h))) go)

pub coming_both : (least : ℕ) (which : First) (a b c d : Wire) (now : ℕ) (s : Sample) → now ≡ s.time → c ≡ with_run a s.scl s.time least → d ≡ with_run b s.sda s.time least → false ≡ same_level a.level s.scl → false ≡ same_level b.level s.sda → GoesOn a → GoesOn b → (more : List Sample) → coming least first.Both c d now more ≡ coming least which a b now (s ∷ more)
coming_both least which a b c d now s e f g h i go_a go_b more =
    rw (e, f, g) (both_new least which a b s more (sym h) (sym i) go_a go_b)

-- ---- what has lasted is handed out

due_lasted : (a : Wire) → is_due a ≡ true → a.missing ≡ 0
due_lasted a d = grind (arith, nat_tests)

due_differs : (a : Wire) → is_due a ≡ true → same_level a.kept a.level ≡ false
due_differs a d = grind (arith, nat_tests)

either_lasted : (a b : Wire) → a.missing ≡ b.missing → (is_due a || is_due b) ≡ true → a.missing ≡ 0
either_lasted a b e d = grind (arith, nat_tests)

either_differs : (a b : Wire) → (is_due a || is_due b) ≡ true → (same_level a.kept a.level && same_level b.kept b.level) ≡ false
either_differs a b d = grind (arith, nat_tests)

-- where it is known with what levels the lines go on
coming_with : (least : ℕ) (which : First) (a b : Wire) (now : ℕ) (more : List Sample) (x y : Level) → settled scl a now more ≡ x → settled sda b now more ≡ y → coming least which a b now more ≡ begun which a b (record { scl = x; sda = y }) (quiet_from least (record { scl = a.level; sda = b.level }) (record { scl = x; sda = y }) more)
coming_with least which a b now more x y e f =
    ap (λ (l : Level). begun which a b (record { scl = l; sda = settled sda b now more }) (quiet_from least (record { scl = a.level; sda = b.level }) (record { scl = l; sda = settled sda b now more }) more)) e
    ∙ ap (λ (l : Level). begun which a b (record { scl = x; sda = l }) (quiet_from least (record { scl = a.level; sda = b.level }) (record { scl = x; sda = l }) more)) f

one_differs : (a b x y : Level) (time : ℕ) (samples : List Sample) → (same_level a x && same_level b y) ≡ false → before (record { scl = a; sda = b }) (record { scl = x; sda = y }) time samples ≡ record { time = time; scl = x; sda = y } ∷ samples
one_differs a b x y time samples e = rw e

-- both runs began in one sample
pub coming_out : (least : ℕ) (a b : Wire) (now : ℕ) (more : List Sample) → a.missing ≡ b.missing → (is_due a || is_due b) ≡ true → coming least first.Both a b now more ≡ record { time = a.from; scl = a.level; sda = b.level } ∷ coming least first.Both (going_on a) (going_on b) now more
coming_out least a b now more e d =
    coming_with least first.Both a b now more a.level b.level (settled_lasted scl a now more z) (settled_lasted sda b now more y)
    ∙ (one_differs a.kept b.kept a.level b.level a.from rest (either_differs a b d)
    ∙ ap (λ (samples : List Sample). record { time = a.from; scl = a.level; sda = b.level } ∷ samples)
    (sym (coming_with least first.Both (going_on a) (going_on b) now more a.level b.level (settled_lasted scl (going_on a) now more z) (settled_lasted sda (going_on b) now more y)
    ∙ no_sample (record { scl = a.level; sda = b.level }) a.from rest)))
  where
    z : a.missing ≡ 0
    z = either_lasted a b e d

    y : b.missing ≡ 0
    y = sym e ∙ z

    rest : List Sample
    rest = quiet_from least (record { scl = a.level; sda = b.level }) (record { scl = a.level; sda = b.level }) more

pub coming_scl_out : (least : ℕ) (which : First) (a b : Wire) (now : ℕ) (more : List Sample) → which ≢ first.Both → (which ≡ first.Sda → GoesOn b) → (which ≡ first.Sda → b.missing ≤ a.missing) → is_due a ≡ true → coming least which a b now more ≡ record { time = a.from; scl = a.level; sda = b.kept } ∷ coming least which (going_on a) b now more
coming_scl_out least first.Both a b now more n g l d = absurd (n refl)
coming_scl_out least first.Scl a b now more n g l d =
    coming_with least first.Scl a b now more a.level y (settled_lasted scl a now more z) refl
    ∙ (scl_differs a.kept a.level b.kept a.from _ (due_differs a d)
    ∙ ap (λ (samples : List Sample). record { time = a.from; scl = a.level; sda = b.kept } ∷ samples)
    (sym (coming_with least first.Scl (going_on a) b now more a.level y (settled_lasted scl (going_on a) now more z) refl
    ∙ no_sample (record { scl = a.level; sda = b.kept }) a.from _)))
  where
    z : a.missing ≡ 0
    z = due_lasted a d

    y : Level
    y = settled sda b now more
coming_scl_out least first.Sda a b now more n g l d =
    coming_with least first.Sda a b now more a.level b.kept (settled_lasted scl a now more z) y
    ∙ (no_sample (record { scl = a.kept; sda = b.kept }) b.from _
    ∙ (scl_differs a.kept a.level b.kept a.from _ (due_differs a d)
    ∙ ap (λ (samples : List Sample). record { time = a.from; scl = a.level; sda = b.kept } ∷ samples)
    (sym (coming_with least first.Sda (going_on a) b now more a.level b.kept (settled_lasted scl (going_on a) now more z) y
    ∙ (no_sample (record { scl = a.level; sda = b.kept }) b.from _
    ∙ no_sample (record { scl = a.level; sda = b.kept }) a.from _)))))
  where
    z : a.missing ≡ 0
    z = due_lasted a d

    w : b.missing ≡ 0
    w = omega (arith, z, l refl)

    y : settled sda b now more ≡ b.kept
    y = settled_lasted sda b now more w ∙ sym (g refl w)

pub coming_sda_out : (least : ℕ) (which : First) (a b : Wire) (now : ℕ) (more : List Sample) → which ≢ first.Both → (which ≡ first.Scl → GoesOn a) → (which ≡ first.Scl → a.missing ≤ b.missing) → is_due b ≡ true → coming least which a b now more ≡ record { time = b.from; scl = a.kept; sda = b.level } ∷ coming least which a (going_on b) now more
coming_sda_out least first.Both a b now more n g l d = absurd (n refl)
coming_sda_out least first.Sda a b now more n g l d =
    coming_with least first.Sda a b now more x b.level refl (settled_lasted sda b now more z)
    ∙ (sda_differs a.kept b.kept b.level b.from _ (due_differs b d)
    ∙ ap (λ (samples : List Sample). record { time = b.from; scl = a.kept; sda = b.level } ∷ samples)
    (sym (coming_with least first.Sda a (going_on b) now more x b.level refl (settled_lasted sda (going_on b) now more z)
    ∙ no_sample (record { scl = a.kept; sda = b.level }) b.from _)))
  where
    z : b.missing ≡ 0
    z = due_lasted b d

    x : Level
    x = settled scl a now more
coming_sda_out least first.Scl a b now more n g l d =
    coming_with least first.Scl a b now more a.kept b.level x (settled_lasted sda b now more z)
    ∙ (no_sample (record { scl = a.kept; sda = b.kept }) a.from _
    ∙ (sda_differs a.kept b.kept b.level b.from _ (due_differs b d)
    ∙ ap (λ (samples : List Sample). record { time = b.from; scl = a.kept; sda = b.level } ∷ samples)
    (sym (coming_with least first.Scl a (going_on b) now more a.kept b.level x (settled_lasted sda (going_on b) now more z)
    ∙ (no_sample (record { scl = a.kept; sda = b.level }) a.from _
    ∙ no_sample (record { scl = a.kept; sda = b.level }) b.from _)))))
  where
    z : b.missing ≡ 0
    z = due_lasted b d

    w : a.missing ≡ 0
    w = omega (arith, z, l refl)

    x : settled scl a now more ≡ a.kept
    x = settled_lasted scl a now more w ∙ sym (g refl w)

-- ---- the end

-- each run lasts
pub coming_last : (least : ℕ) (which : First) (a b : Wire) (now : ℕ) → coming least which (record a { missing = 0 }) (record b { missing = 0 }) now [] ≡ coming least which a b now []
coming_last least first.Both a b now = refl
coming_last least first.Scl a b now = refl
coming_last least first.Sda a b now = refl

-- where both have gone on, nothing is left
pub coming_end : (least : ℕ) (which : First) (a b : Wire) (now : ℕ) → a.kept ≡ a.level → b.kept ≡ b.level → coming least which a b now [] ≡ []
coming_end least first.Both a b now e f = rw (e, f) (no_sample (record { scl = a.level; sda = b.level }) a.from [])
coming_end least first.Scl a b now e f = rw (e, f) (no_sample (record { scl = a.level; sda = b.level }) a.from _ ∙ no_sample (record { scl = a.level; sda = b.level }) b.from [])
coming_end least first.Sda a b now e f = rw (e, f) (no_sample (record { scl = a.level; sda = b.level }) b.from _ ∙ no_sample (record { scl = a.level; sda = b.level }) a.from [])

-- ---- the same, as the filter hands out

pub pushed : (quiet new : List Sample) (s : Sample) (old rest : List Sample) → new ≡ quiet ++ s ∷ [] → old ≡ s ∷ rest → new ++ rest ≡ quiet ++ old
pushed quiet new s old rest e f = rw (e, f) (append_assoc quiet (s ∷ []) rest)

pub first_due : (a b : Bool) → a ≡ true → (a || b) ≡ true
first_due a b e = rw e

pub second_due : (a b : Bool) → b ≡ true → (a || b) ≡ true
second_due true b e = refl
second_due false b e = e

pub out : (least : ℕ) (a b c d : Wire) (now : ℕ) (s : Sample) (quiet new more : List Sample) → c ≡ going_on a → d ≡ going_on b → s ≡ record { time = c.from; scl = c.kept; sda = d.kept } → new ≡ quiet ++ s ∷ [] → a.missing ≡ b.missing → (is_due a || is_due b) ≡ true → new ++ coming least first.Both c d now more ≡ quiet ++ coming least first.Both a b now more
out least a b c d now s quiet new more e f g h m due =
    pushed quiet new s (coming least first.Both a b now more) (coming least first.Both c d now more) h
    (coming_out least a b now more m due ∙ cc)

pub scl_out : (least : ℕ) (which : First) (a b c : Wire) (now : ℕ) (s : Sample) (quiet new more : List Sample) → c ≡ going_on a → s ≡ record { time = c.from; scl = c.kept; sda = b.kept } → new ≡ quiet ++ s ∷ [] → which ≢ first.Both → (which ≡ first.Sda → GoesOn b) → (which ≡ first.Sda → b.missing ≤ a.missing) → is_due a ≡ true → new ++ coming least which c b now more ≡ quiet ++ coming least which a b now more
scl_out least which a b c now s quiet new more e f g n go l d =
    pushed quiet new s (coming least which a b now more) (coming least which c b now more) g
    (coming_scl_out least which a b now more n go l d ∙ cc)

pub sda_out : (least : ℕ) (which : First) (a b d : Wire) (now : ℕ) (s : Sample) (quiet new more : List Sample) → d ≡ going_on b → s ≡ record { time = d.from; scl = a.kept; sda = d.kept } → new ≡ quiet ++ s ∷ [] → which ≢ first.Both → (which ≡ first.Scl → GoesOn a) → (which ≡ first.Scl → a.missing ≤ b.missing) → is_due b ≡ true → new ++ coming least which a d now more ≡ quiet ++ coming least which a b now more
sda_out least which a b d now s quiet new more e f g n go l due =
    pushed quiet new s (coming least which a b now more) (coming least which a d now more) g
    (coming_sda_out least which a b now more n go l due ∙ cc)
