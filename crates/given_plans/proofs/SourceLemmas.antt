-- Readers of several briefs, one after another.
use Rattle.std.proofs.Common.{◌≡◌, ◌≢◌, ℕ, suc, ◌+◌, ◌<◌, ◌≤◌, List, get_or, [], ◌∷◌, ◌++◌, length, Result, Ok, Err, Option, Some, None, IfErr, IfSome, refl, sym, subst, ap, ◌∙◌, arith}
use Rattle.std.proofs.lemmas.List.{append-nil, append_assoc, take-append-drop, take-set, drop-set, drop-set-lt, drop_all, drop_more}
use Rattle.std.proofs.Math.Seq.{take-suc-set}
use Rattle.std.specs.Prelude.{take, drop, slice_set, Vec, IfOk}
use Rattle.std.specs.declared.alloc.Global.{Global}
use Rattle.brief_text.specs.Briefs.{texts_read, briefs_read, in_text, then_read, AllMean}
use Rattle.brief_text.specs.Drafts.{Draft, no_items}
use Rattle.brief_text.specs.Splitting.{plan_meant}
use Rattle.brief_text.specs.Together.{together}
use Rattle.given_plans.specs.Given.{GivesPlan, AddsBrief, RefusesGiven}
use Rattle.given_plans.specs.ReadingOn.{AddBriefs, no_more, one_more, ReadsOn, RefusedAfter, FromPlace}
use Rattle.given_plans.specs.Sources.{GiveThePlan, ReadsTexts, all_read, one_read, ReadsUpTo, last_read, then_read as and_then, HaltsAmong, after_this, HaltsAtBriefs, at_brief, after_briefs, HaltsAtTexts, at_alone, at_several, after_all, bytes_of}
use Rattle.given_plans.specs.declared.plans.Halted.{Halted}
use Rattle.given_plans.specs.declared.plans.RefusedText.{RefusedText}
use Rattle.given_plans.specs.declared.sources.BriefsRead.{BriefsRead}
use Rattle.given_plans.specs.declared.plans.GivenPlan.{GivenPlan}
use Rattle.plan_core.specs.Contents.{Contents}
use Rattle.plan_core.specs.PlanContents.{plan_contents}
use Rattle.plan_text.specs.declared.errors.PlanError.{PlanError}
use Rattle.run_parts.specs.Devices.{Reader}
use Rattle.run_parts.specs.Runs.{ReadsText, HaltsAtText}
use Rattle.run_parts.specs.declared.errors.RunError.{RunError}
use Rattle.run_parts.specs.declared.errors.RunError.TheVariants.{NoMemory}

-- ---- from a place on

step_kept : {D : Type 0} (xs zs rest : List D) (k : ℕ) (now : D) → k < length xs → zs ≡ take (k + 1) (slice_set xs k now) ++ rest → zs ≡ take k xs ++ (now ∷ rest)
step_kept xs zs rest k now within kept =
    let one : k + 1 ≡ suc k = omega arith in
    kept ∙ (ap (λ n. take n (slice_set xs k now) ++ rest) one ∙ (ap (λ front. front ++ rest) (take-suc-set xs k now within) ∙ append_assoc (take k xs) (now ∷ []) rest))

pub from_step : {D : Type 0} (P Q : List D → List D → Type 0) (xs zs : List D) (k : ℕ) (x now : D) → k < length xs → x ≡ get_or xs k x → ((rest nows : List D) → Q rest nows → P (x ∷ rest) (now ∷ nows)) → FromPlace (k + 1) Q (slice_set xs k now) zs → FromPlace k P xs zs
from_step P Q xs zs k x now within is more h = record {
  rest = now ∷ h.rest;
  kept = step_kept xs zs h.rest k now within h.kept;
  holds =
      let at : drop k xs ≡ x ∷ drop (k + 1) xs = drop_more xs k x within ∙ ap (λ y. y ∷ drop (k + 1) xs) (sym is) in
      let after : Q (drop (k + 1) xs) h.rest = subst (λ ys. Q ys h.rest) (drop-set-lt (k + 1) xs k now (omega arith)) h.holds in
      subst (λ ys. P ys (now ∷ h.rest)) (sym at) (more (drop (k + 1) xs) h.rest after);
}

pub from_here : {D : Type 0} (P : List D → List D → Type 0) (xs : List D) (k : ℕ) (x now : D) → k < length xs → x ≡ get_or xs k x → ((rest : List D) → P (x ∷ rest) (now ∷ rest)) → FromPlace k P xs (slice_set xs k now)
from_here P xs k x now within is here = record {
  rest = now ∷ drop (k + 1) xs;
  kept = sym (take-append-drop k (slice_set xs k now)) ∙ (ap (λ front. front ++ drop k (slice_set xs k now)) (take-set xs k now) ∙ ap (λ rest. take k xs ++ rest) (drop-set xs k now within));
  holds =
      let at : drop k xs ≡ x ∷ drop (k + 1) xs = drop_more xs k x within ∙ ap (λ y. y ∷ drop (k + 1) xs) (sym is) in
      subst (λ ys. P ys (now ∷ drop (k + 1) xs)) (sym at) (here (drop (k + 1) xs));
}

pub from_end : {D : Type 0} (P : List D → List D → Type 0) (xs : List D) (k : ℕ) → length xs ≤ k → P [] [] → FromPlace k P xs xs
from_end P xs k past none = record {
  rest = [];
  kept = sym (take-append-drop k xs) ∙ ap (λ rest. take k xs ++ rest) (drop_all k xs past);
  holds = subst (λ ys. P ys []) (sym (drop_all k xs past)) none;
}

pub from_zero : {D : Type 0} (P : List D → List D → Type 0) (xs zs : List D) → FromPlace 0 P xs zs → P xs zs
from_zero P xs zs h = subst (λ ys. P xs ys) (sym h.kept) h.holds

-- ---- what texts add

pub adds_read : (k : ℕ) (items after : Draft) (texts : List (List ℕ)) → AddBriefs items texts after → texts_read k items texts ≡ Ok after
adds_read k items after [] no_more = refl
adds_read k items after (text ∷ texts) (one_more {more = more} this rest) =
    ap (λ (r : Result Draft PlanError). then_read (in_text k r) (λ more. texts_read (k + 1) more texts)) this ∙ adds_read (k + 1) more after texts rest

pub together_mean : (texts : List (List ℕ)) (none after : Draft) (plan : Contents) → none ≡ no_items → AddBriefs none texts after → plan ≡ plan_meant after → AllMean texts plan
unfolding briefs_read
together_mean texts none after plan empty added same =
    ap (λ (r : Result Draft (ℕ × PlanError)). then_read r (λ draft. Ok (plan_meant draft)))
    (adds_read 0 no_items after texts (subst (λ (d : Draft). AddBriefs d texts after) empty added))
    ∙ ap Ok (sym same)

module _ {D : Type 0} (reader : Reader D) where
  -- ---- reading on

  pub reads_nothing : (read : BriefsRead) → ReadsOn reader read [] read []
  reads_nothing read = record { texts = []; gave = all_read; added = no_more; kept = sym (append-nil (bytes_of read.texts.items)) }

  pub reads_more : (read it last : BriefsRead) (before now : D) (befores nows : List D) (text : List ℕ) →
      ReadsText reader before text now →
      AddsBrief (together read.briefs) text (together it.briefs) →
      bytes_of it.texts.items ≡ bytes_of read.texts.items ++ (text ∷ []) →
      ReadsOn reader it befores last nows →
      ReadsOn reader read (before ∷ befores) last (now ∷ nows)
  reads_more read it last before now befores nows text gave adds kept rest = record {
    texts = text ∷ rest.texts;
    gave = one_read gave rest.gave;
    added = one_more adds rest.added;
    kept = rest.kept ∙ (ap (λ (ts : List (List ℕ)). ts ++ rest.texts) kept ∙ append_assoc (bytes_of read.texts.items) (text ∷ []) rest.texts);
  }

  -- ---- one alone, or several

  pub give_the_plan : (befores nows : List D) (texts : List (List ℕ)) (plan : Contents) → length befores ≢ 1 → ReadsTexts reader befores texts nows → AllMean texts plan → GiveThePlan texts plan
  give_the_plan [] nows [] plan several read all = all
  give_the_plan [] nows (text ∷ texts) plan several read all = elim read [ ]
  give_the_plan (d ∷ []) nows texts plan several read all = absurd (several refl)
  give_the_plan (d ∷ e ∷ ds) nows [] plan several read all = elim read [ ]
  give_the_plan (d ∷ e ∷ ds) nows (text ∷ []) plan several (one_read this rest) all = elim rest [ ]
  give_the_plan (d ∷ e ∷ ds) nows (text ∷ next ∷ texts) plan several read all = all

  several_halt : (befores nows : List D) (error : RunError) → length befores ≢ 1 → HaltsAmong reader no_items befores error nows → HaltsAtTexts reader befores error nows
  several_halt [] nows error several halts = elim halts [ ]
  several_halt (d ∷ []) nows error several halts = absurd (several refl)
  several_halt (d ∷ e ∷ ds) nows error several halts = at_several halts

  pub briefs_halt : (befores nows : List D) (error : RunError) → length befores ≢ 1 → HaltsAtBriefs reader befores error nows → HaltsAtTexts reader befores error nows
  briefs_halt befores nows error several (at_brief halts) = several_halt befores nows error several halts
  briefs_halt befores nows error several (after_briefs read) = after_all read

  -- ---- one text alone

  pub alone_read : (xs : List D) (x now : D) (text : List ℕ) (texts : List (List ℕ)) → length xs ≡ 1 → x ≡ get_or xs 0 x → ReadsText reader x text now → texts ≡ text ∷ [] → ReadsTexts reader xs texts (slice_set xs 0 now)
  alone_read [] x now text texts one is read same = absurd (omega (arith, one))
  alone_read (d ∷ []) x now text texts one is read same =
      subst (λ (ts : List (List ℕ)). ReadsTexts reader (d ∷ []) ts (now ∷ [])) (sym same) (one_read (subst (λ y. ReadsText reader y text now) is read) all_read)
  alone_read (d ∷ e ∷ ds) x now text texts one is read same = absurd (omega (arith, one))

  pub alone_halts : (xs : List D) (x now : D) (error : RunError) → length xs ≡ 1 → x ≡ get_or xs 0 x → HaltsAtText reader RefusesGiven x error now → HaltsAtTexts reader xs error (slice_set xs 0 now)
  alone_halts [] x now error one is halts = absurd (omega (arith, one))
  alone_halts (d ∷ []) x now error one is halts = at_alone (subst (λ y. HaltsAtText reader RefusesGiven y error now) is halts)
  alone_halts (d ∷ e ∷ ds) x now error one is halts = absurd (omega (arith, one))

  pub alone_up_to : (xs : List D) (x now : D) (before : List (List ℕ)) (text : List ℕ) → length xs ≡ 1 → x ≡ get_or xs 0 x → ReadsText reader x text now → before ≡ [] → ReadsUpTo reader xs before text (slice_set xs 0 now)
  alone_up_to [] x now before text one is read none = absurd (omega (arith, one))
  alone_up_to (d ∷ []) x now before text one is read none =
      subst (λ (ts : List (List ℕ)). ReadsUpTo reader (d ∷ []) ts text (now ∷ [])) (sym none) (last_read (subst (λ y. ReadsText reader y text now) is read))
  alone_up_to (d ∷ e ∷ ds) x now before text one is read none = absurd (omega (arith, one))

  -- ---- a text that is refused

  pub refused_here : (earlier before : List (List ℕ)) (x now : D) (text : List ℕ) (rest : List D) → ReadsText reader x text now → before ≡ earlier → RefusedAfter reader earlier (x ∷ rest) before text (now ∷ rest)
  refused_here earlier before x now text rest read same = record { texts = []; gave = last_read read; kept = same ∙ sym (append-nil earlier) }

  pub refused_later : (earlier more before : List (List ℕ)) (x now : D) (text last : List ℕ) (rest nows : List D) → ReadsText reader x text now → more ≡ earlier ++ (text ∷ []) → RefusedAfter reader more rest before last nows → RefusedAfter reader earlier (x ∷ rest) before last (now ∷ nows)
  refused_later earlier more before x now text last rest nows read kept h = record {
    texts = text ∷ h.texts;
    gave = and_then read h.gave;
    kept = h.kept ∙ (ap (λ (ts : List (List ℕ)). ts ++ h.texts) kept ∙ append_assoc earlier (text ∷ []) h.texts);
  }

-- ---- how a step ends

module _ {D : Type 0} (reader : Reader D) where
  module _ (read it : BriefsRead) (xs zs : List D) (k : ℕ) (x now : D) (text : List ℕ) (within : k < length xs) (is : x ≡ get_or xs k x) (gave : ReadsText reader x text now) (adds : AddsBrief (together read.briefs) text (together it.briefs)) (kept : bytes_of it.texts.items ≡ bytes_of read.texts.items ++ (text ∷ [])) where
    pub step_reads : (r : Result BriefsRead Halted) → IfOk r (λ last. FromPlace (k + 1) (λ befores nows. ReadsOn reader it befores last nows) (slice_set xs k now) zs) → IfOk r (λ last. FromPlace k (λ befores nows. ReadsOn reader read befores last nows) xs zs)
    step_reads (Ok last) h =
        from_step (λ befores nows. ReadsOn reader read befores last nows) (λ befores nows. ReadsOn reader it befores last nows) xs zs k x now within is
        (λ rest nows more. reads_more reader read it last x now rest nows text gave adds kept more) h
    step_reads (Err e) h = tt

    pub step_halts : (r : Result BriefsRead Halted) → IfErr r (λ e. FromPlace (k + 1) (λ befores nows. HaltsAmong reader (together it.briefs) befores e.error nows) (slice_set xs k now) zs) → IfErr r (λ e. FromPlace k (λ befores nows. HaltsAmong reader (together read.briefs) befores e.error nows) xs zs)
    step_halts (Ok last) h = tt
    step_halts (Err e) h =
        from_step (λ befores nows. HaltsAmong reader (together read.briefs) befores e.error nows) (λ befores nows. HaltsAmong reader (together it.briefs) befores e.error nows) xs zs k x now within is
        (λ rest nows more. after_this gave adds more) h

    step_refused_text : (o : Option RefusedText) → IfSome o (λ r. FromPlace (k + 1) (λ befores nows. RefusedAfter reader (bytes_of it.texts.items) befores (bytes_of r.before.items) r.text.items nows) (slice_set xs k now) zs) → IfSome o (λ r. FromPlace k (λ befores nows. RefusedAfter reader (bytes_of read.texts.items) befores (bytes_of r.before.items) r.text.items nows) xs zs)
    step_refused_text None h = tt
    step_refused_text (Some r) h =
        from_step (λ befores nows. RefusedAfter reader (bytes_of read.texts.items) befores (bytes_of r.before.items) r.text.items nows) (λ befores nows. RefusedAfter reader (bytes_of it.texts.items) befores (bytes_of r.before.items) r.text.items nows) xs zs k x now within is
        (λ rest nows more. refused_later reader (bytes_of read.texts.items) (bytes_of it.texts.items) (bytes_of r.before.items) x now text r.text.items rest nows gave kept more) h

    pub step_refused : (r : Result BriefsRead Halted) → IfErr r (λ e. IfSome e.text (λ r. FromPlace (k + 1) (λ befores nows. RefusedAfter reader (bytes_of it.texts.items) befores (bytes_of r.before.items) r.text.items nows) (slice_set xs k now) zs)) → IfErr r (λ e. IfSome e.text (λ r. FromPlace k (λ befores nows. RefusedAfter reader (bytes_of read.texts.items) befores (bytes_of r.before.items) r.text.items nows) xs zs))
    step_refused (Ok last) h = tt
    step_refused (Err e) h = step_refused_text e.text h

  pub here_refused : (read : BriefsRead) (xs : List D) (k : ℕ) (x now : D) → k < length xs → x ≡ get_or xs k x → (o : Option RefusedText) → IfSome o (λ r. ReadsText reader x r.text.items now × (r.before ≡ read.texts)) → IfSome o (λ r. FromPlace k (λ befores nows. RefusedAfter reader (bytes_of read.texts.items) befores (bytes_of r.before.items) r.text.items nows) xs (slice_set xs k now))
  here_refused read xs k x now within is None h = tt
  here_refused read xs k x now within is (Some r) h =
      from_here (λ befores nows. RefusedAfter reader (bytes_of read.texts.items) befores (bytes_of r.before.items) r.text.items nows) xs k x now within is
      (λ rest. refused_here reader (bytes_of read.texts.items) (bytes_of r.before.items) x now r.text.items rest h.0 (ap (λ (v : Vec (Vec ℕ Global) Global). bytes_of v.items) h.1))

-- ---- briefs from the first on

module _ {D : Type 0} (reader : Reader D) (none it : BriefsRead) (xs zs : List D) (empty : none.texts.items ≡ []) where
  module _ (read : FromPlace 0 (λ befores nows. ReadsOn reader none befores it nows) xs zs) where
    its_texts : ReadsOn reader none xs it zs
    its_texts = from_zero (λ befores nows. ReadsOn reader none befores it nows) xs zs read

    same_texts : its_texts.texts ≡ bytes_of it.texts.items
    same_texts = sym (its_texts.kept ∙ ap (λ (vs : List (Vec ℕ Global)). bytes_of vs ++ its_texts.texts) empty)

    pub all_are_read : (r : Result GivenPlan Halted) → IfOk r (λ g. g.provenance.texts ≡ it.texts) → IfOk r (λ g. ReadsTexts reader xs (bytes_of g.provenance.texts.items) zs)
    all_are_read (Ok g) same =
        subst (λ (v : Vec (Vec ℕ Global) Global). ReadsTexts reader xs (bytes_of v.items) zs) (sym same)
        (subst (λ (ts : List (List ℕ)). ReadsTexts reader xs ts zs) same_texts its_texts.gave)
    all_are_read (Err e) same = tt

    pub all_mean : (r : Result GivenPlan Halted) → together none.briefs ≡ no_items → IfOk r (λ g. g.provenance.texts ≡ it.texts) → IfOk r (λ g. plan_contents g.plan ≡ plan_meant (together it.briefs)) → IfOk r (λ g. AllMean (bytes_of g.provenance.texts.items) (plan_contents g.plan))
    all_mean (Ok g) nothing same plan =
        subst (λ (v : Vec (Vec ℕ Global) Global). AllMean (bytes_of v.items) (plan_contents g.plan)) (sym same)
        (together_mean (bytes_of it.texts.items) (together none.briefs) (together it.briefs) (plan_contents g.plan) nothing (subst (λ (ts : List (List ℕ)). AddBriefs (together none.briefs) ts (together it.briefs)) same_texts its_texts.added) plan)
    all_mean (Err e) nothing same plan = tt

    pub memory_halts : (r : Result GivenPlan Halted) → IfErr r (λ e. e.error ≡ NoMemory) → IfErr r (λ e. HaltsAtBriefs reader xs e.error zs)
    memory_halts (Ok g) memory = tt
    memory_halts (Err e) memory = subst (λ (error : RunError). HaltsAtBriefs reader xs error zs) (sym memory) (after_briefs its_texts.gave)

  pub brief_halts : (error : RunError) → together none.briefs ≡ no_items → FromPlace 0 (λ befores nows. HaltsAmong reader (together none.briefs) befores error nows) xs zs → HaltsAtBriefs reader xs error zs
  brief_halts error nothing h = at_brief (subst (λ (d : Draft). HaltsAmong reader d xs error zs) nothing (from_zero (λ befores nows. HaltsAmong reader (together none.briefs) befores error nows) xs zs h))

  pub brief_refused : (o : Option RefusedText) → IfSome o (λ r. FromPlace 0 (λ befores nows. RefusedAfter reader (bytes_of none.texts.items) befores (bytes_of r.before.items) r.text.items nows) xs zs) → IfSome o (λ r. ReadsUpTo reader xs (bytes_of r.before.items) r.text.items zs)
  brief_refused None h = tt
  brief_refused (Some r) h =
      let after = from_zero (λ befores nows. RefusedAfter reader (bytes_of none.texts.items) befores (bytes_of r.before.items) r.text.items nows) xs zs h in
      subst (λ (ts : List (List ℕ)). ReadsUpTo reader xs ts r.text.items zs) (sym (after.kept ∙ ap (λ (vs : List (Vec ℕ Global)). bytes_of vs ++ after.texts) empty)) after.gave

-- ---- one alone, or several

module _ {D : Type 0} (reader : Reader D) (xs zs : List D) (several : length xs ≢ 1) where
  pub several_give : (r : Result GivenPlan Halted) → IfOk r (λ g. ReadsTexts reader xs (bytes_of g.provenance.texts.items) zs) → IfOk r (λ g. AllMean (bytes_of g.provenance.texts.items) (plan_contents g.plan)) → IfOk r (λ g. GiveThePlan (bytes_of g.provenance.texts.items) (plan_contents g.plan))
  several_give (Ok g) read all = give_the_plan reader xs zs (bytes_of g.provenance.texts.items) (plan_contents g.plan) several read all
  several_give (Err e) read all = tt

  pub several_stop : (r : Result GivenPlan Halted) → IfErr r (λ e. HaltsAtBriefs reader xs e.error zs) → IfErr r (λ e. HaltsAtTexts reader xs e.error zs)
  several_stop (Ok g) halts = tt
  several_stop (Err e) halts = briefs_halt reader xs zs e.error several halts

module _ {D : Type 0} (reader : Reader D) (xs : List D) (x now : D) (one : length xs ≡ 1) (is : x ≡ get_or xs 0 x) where
  pub one_reads : (r : Result GivenPlan Halted) → IfOk r (λ g. (read : List ℕ) × ReadsText reader x read now × GivesPlan read (plan_contents g.plan) × (bytes_of g.provenance.texts.items ≡ read ∷ [])) → IfOk r (λ g. ReadsTexts reader xs (bytes_of g.provenance.texts.items) (slice_set xs 0 now))
  one_reads (Ok g) h = alone_read reader xs x now h.0 (bytes_of g.provenance.texts.items) one is h.1 h.3
  one_reads (Err e) h = tt

  pub one_stops : (r : Result GivenPlan Halted) → IfErr r (λ e. HaltsAtText reader RefusesGiven x e.error now) → IfErr r (λ e. HaltsAtTexts reader xs e.error (slice_set xs 0 now))
  one_stops (Ok g) h = tt
  one_stops (Err e) h = alone_halts reader xs x now e.error one is h

  one_text : (o : Option RefusedText) → IfSome o (λ r. ReadsText reader x r.text.items now × (r.before.items ≡ [])) → IfSome o (λ r. ReadsUpTo reader xs (bytes_of r.before.items) r.text.items (slice_set xs 0 now))
  one_text None h = tt
  one_text (Some r) h = alone_up_to reader xs x now (bytes_of r.before.items) r.text.items one is h.0 (ap (λ (vs : List (Vec ℕ Global)). bytes_of vs) h.1)

  pub one_refused : (r : Result GivenPlan Halted) → IfErr r (λ e. IfSome e.text (λ r. ReadsText reader x r.text.items now × (r.before.items ≡ []))) → IfErr r (λ e. IfSome e.text (λ r. ReadsUpTo reader xs (bytes_of r.before.items) r.text.items (slice_set xs 0 now)))
  one_refused (Ok g) h = tt
  one_refused (Err e) h = one_text e.text h
