-- What gives a plan: one text of either kind, or several briefs. Each is read to its end, and judged, before the next is read.
use Rattle.std.specs.Prelude.{ℕ, List, [], ◌∷◌, map, Vec}
use Rattle.std.specs.declared.alloc.Global.{Global}
use Rattle.plan_core.specs.Contents.{Contents}
use Rattle.brief_text.specs.Briefs.{AllMean}
use Rattle.brief_text.specs.Drafts.{Draft, no_items}
use Rattle.given_plans.specs.Given.{GivesPlan, RefusesGiven, AddsBrief, RefusesFurther}
use Rattle.run_parts.specs.Devices.{Reader}
use Rattle.run_parts.specs.Runs.{ReadsText, HaltsAtText}
use Rattle.run_parts.specs.declared.errors.RunError.{RunError}
use Rattle.run_parts.specs.declared.errors.RunError.TheVariants as error
use Rattle.run_parts.specs.declared.runs.Status.{Status}

-- the texts give this plan: one text by what it is, several as the briefs whose items make it up
abbrev pub GiveThePlan : List (List ℕ) → Contents → Type 0
GiveThePlan [] plan = AllMean [] plan
GiveThePlan (text ∷ []) plan = GivesPlan text plan
GiveThePlan (text ∷ next ∷ texts) plan = AllMean (text ∷ next ∷ texts) plan

-- for texts that give a plan a report is due that is due for the plan
pub record DueFor (Due : Contents → List ℕ → Status → Type 0) (texts : List (List ℕ)) (report : List ℕ) (status : Status) : Type 0 where
  pub plan : Contents
  pub given : GiveThePlan texts plan
  pub due : Due plan report status

-- the same where each text has to be a brief
pub record DueForBriefs (Due : Contents → List ℕ → Status → Type 0) (texts : List (List ℕ)) (report : List ℕ) (status : Status) : Type 0 where
  pub plan : Contents
  pub meant : AllMean texts plan
  pub due : Due plan report status

abbrev pub bytes_of : List (Vec ℕ Global) → List (List ℕ)
bytes_of texts = map (λ (text : Vec ℕ Global). text.items) texts

module _ {D : Type 0} (reader : Reader D) where
  -- each reader gave its text, to the end
  pub data ReadsTexts : List D → List (List ℕ) → List D → Type 0 where
    all_read : ReadsTexts [] [] []
    one_read : {before now : D} {befores nows : List D} {text : List ℕ} {texts : List (List ℕ)} →
        ReadsText reader before text now →
        ReadsTexts befores texts nows →
        ReadsTexts (before ∷ befores) (text ∷ texts) (now ∷ nows)

  -- the first readers gave these texts, and the next one this text; those after it are as they were
  pub data ReadsUpTo : List D → List (List ℕ) → List ℕ → List D → Type 0 where
    last_read : {before now : D} {rest : List D} {text : List ℕ} →
        ReadsText reader before text now →
        ReadsUpTo (before ∷ rest) [] text (now ∷ rest)
    then_read : {before now : D} {befores nows : List D} {text last : List ℕ} {texts : List (List ℕ)} →
        ReadsText reader before text now →
        ReadsUpTo befores texts last nows →
        ReadsUpTo (before ∷ befores) (text ∷ texts) last (now ∷ nows)

  -- After these items the reading halted at one of the briefs: those before it were read and add their items, it halted at this
  -- one, and those after it are as they were.
  pub data HaltsAmong : Draft → List D → RunError → List D → Type 0 where
    at_this : {items : Draft} {before now : D} {rest : List D} {error : RunError} →
        HaltsAtText reader (RefusesFurther items) before error now →
        HaltsAmong items (before ∷ rest) error (now ∷ rest)
    after_this : {items more : Draft} {before now : D} {befores nows : List D} {text : List ℕ} {error : RunError} →
        ReadsText reader before text now →
        AddsBrief items text more →
        HaltsAmong more befores error nows →
        HaltsAmong items (before ∷ befores) error (now ∷ nows)

  -- the reading of briefs halted at one of them, or an allocation failed after all
  pub data HaltsAtBriefs : List D → RunError → List D → Type 0 where
    at_brief : {befores nows : List D} {error : RunError} →
        HaltsAmong no_items befores error nows →
        HaltsAtBriefs befores error nows
    after_briefs : {befores nows : List D} {texts : List (List ℕ)} →
        ReadsTexts befores texts nows →
        HaltsAtBriefs befores error.NoMemory nows

  -- the same of what gives a plan: a text alone may be a plan text too
  pub data HaltsAtTexts : List D → RunError → List D → Type 0 where
    at_alone : {before now : D} {error : RunError} →
        HaltsAtText reader RefusesGiven before error now →
        HaltsAtTexts (before ∷ []) error (now ∷ [])
    at_several : {first second : D} {rest nows : List D} {error : RunError} →
        HaltsAmong no_items (first ∷ second ∷ rest) error nows →
        HaltsAtTexts (first ∷ second ∷ rest) error nows
    after_all : {befores nows : List D} {texts : List (List ℕ)} →
        ReadsTexts befores texts nows →
        HaltsAtTexts befores error.NoMemory nows
