-- A plan that is given as a plan text, or as a brief.
use Rattle.std.specs.Prelude.{◌≡◌, ◌⊎◌, ℕ, Bool, true, false, List, Result, Ok, Err}
use Rattle.lexer.specs.declared.lexemes.Letters.{Letters}
use Rattle.lexer.specs.declared.lexemes.Letters.TheVariants.{Board}
use Rattle.plan_core.specs.Contents.{Contents}
use Rattle.plan_text.specs.Grammar.{Spells}
use Rattle.plan_text.specs.Refusals.{First}
use Rattle.plan_text.specs.declared.errors.PlanError.{PlanError}
use Rattle.plan_text.specs.declared.errors.PlanError.TheVariants.{Version}
use Rattle.brief_tokens.specs.Heads.{begun}
use Rattle.brief_tokens.specs.Tokens.{Tokens}
use Rattle.brief_text.specs.Briefs.{Means, IsRefused, text_read}
use Rattle.brief_text.specs.Drafts.{Draft}
use Rattle.run_parts.specs.declared.errors.RunError.{RunError}
use Rattle.run_parts.specs.declared.errors.RunError.TheVariants as error

-- the text spells this plan, or it is a brief that means it
abbrev pub GivesPlan : List ℕ → Contents → Type 0
GivesPlan text plan = Spells text plan ⊎ Means text plan

-- whether the refusal says that the text does not begin as it should
abbrev pub is_version : PlanError → Bool
is_version (Version line) = true
is_version _ = false

-- whether the text begins as a brief of the second version, whose comments may have bytes that no plan text has
abbrev pub is_second : Result (Letters × Tokens) PlanError → Bool
is_second (Ok (Board, rest)) = true
is_second _ = false

abbrev pub begins_second : List ℕ → Bool
begins_second text = is_second (begun text)

-- The first refusal of a text that is neither: that of a brief, where it begins as one of the second version. Else that of a plan
-- text; and where it does not begin as a plan, that of a brief, unless it does not begin as a brief either.
pub data IsNeither (text : List ℕ) : PlanError → Type 0 where
  no_second : {e : PlanError} → begins_second text ≡ true → IsRefused text e → IsNeither text e
  no_plan : {e : PlanError} → begins_second text ≡ false → First text e → is_version e ≡ false → IsNeither text e
  no_brief : {head e : PlanError} →
      First text head →
      is_version head ≡ true →
      IsRefused text e →
      is_version e ≡ false →
      IsNeither text e
  no_head : {e other : PlanError} →
      First text e →
      is_version e ≡ true →
      IsRefused text other →
      is_version other ≡ true →
      IsNeither text e

-- the first refusal of the text is the answer, but for out of memory, which may come at any text
abbrev pub RefusesGiven : List ℕ → RunError → Type 0
RefusesGiven text (error.Plan e) = IsNeither text e
RefusesGiven text error.NoMemory = Unit {0}
RefusesGiven text _ = ⊥

-- ---- a further brief

-- after what stood before, the text is a brief that adds its items
abbrev pub AddsBrief : Draft → List ℕ → Draft → Type 0
AddsBrief before text after = text_read before text ≡ Ok after

-- its first refusal there is the answer, but for out of memory
abbrev pub RefusesFurther : Draft → List ℕ → RunError → Type 0
RefusesFurther before text (error.Plan e) = text_read before text ≡ Err e
RefusesFurther before text error.NoMemory = Unit {0}
RefusesFurther before text _ = ⊥
