-- What print says of a plan text, expand of a brief, and brief of a plan text.
use Rattle.std.specs.Prelude.{◌≡◌, ℕ, List, false}
use Rattle.plan_core.specs.Contents.{Contents}
use Rattle.spellings.specs.Canonical.{plan_text}
use Rattle.plan_text.specs.Grammar.{Spells}
use Rattle.plan_text.specs.Refusals.{First}
use Rattle.brief_text.specs.Briefs.{Means, IsRefused}
use Rattle.brief_tokens.specs.Names.{has_brief_word, LacksBrief}
use Rattle.run_parts.specs.declared.errors.RunError.{RunError}
use Rattle.run_parts.specs.declared.errors.RunError.TheVariants as error
use Rattle.run_parts.specs.declared.runs.Status.{Status}
use Rattle.run_parts.specs.declared.runs.Status.TheVariants.{Good}

-- the text spells a plan; the report is the canonical spelling of this plan, and spells it too
pub record Printed (text report : List ℕ) (status : Status) : Type 0 where
  pub plan : Contents
  pub spelled : Spells text plan
  pub canonical : report ≡ plan_text plan
  pub read_back : Spells report plan
  pub good : status ≡ Good

-- the brief means a plan; the report is the canonical spelling of this plan, and spells it
pub record Expanded (brief report : List ℕ) (status : Status) : Type 0 where
  pub plan : Contents
  pub meant : Means brief plan
  pub canonical : report ≡ plan_text plan
  pub read_back : Spells report plan
  pub good : status ≡ Good

-- the first refusal of the brief is the answer, but for out of memory, which may come at any brief
abbrev pub RefusesBrief : List ℕ → RunError → Type 0
RefusesBrief brief (error.Plan e) = IsRefused brief e
RefusesBrief brief error.NoMemory = Unit {0}
RefusesBrief brief _ = ⊥

-- the text spells a plan, none of whose names is a word of briefs; the report is a brief that means this plan
pub record Abbreviated (text report : List ℕ) (status : Status) : Type 0 where
  pub plan : Contents
  pub spelled : Spells text plan
  pub sayable : has_brief_word plan ≡ false
  pub meant : Means report plan
  pub good : status ≡ Good

-- the first refusal of the text is the answer, or why the plan that it spells has no brief; but for out of memory
abbrev pub GivesNoBrief : List ℕ → RunError → Type 0
GivesNoBrief text (error.Plan e) = First text e
GivesNoBrief text (error.Brief why) = (plan : Contents) × Spells text plan × LacksBrief plan why
GivesNoBrief text error.NoMemory = Unit {0}
GivesNoBrief text _ = ⊥
