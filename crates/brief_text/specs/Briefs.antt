-- What briefs mean: the plan that the items of all of them make up, or the first refusal.
use Rattle.std.specs.Prelude.{◌≡◌, ℕ, zero, suc, ◌+◌, Bool, true, false, List, [], ◌∷◌, length, None, Result, Ok, Err}
use Rattle.std.specs.Prelude.{if◌then◌else◌}
use Rattle.plan_core.specs.Contents.{Contents}
use Rattle.plan_text.specs.declared.errors.PlanError.{PlanError}
use Rattle.plan_text.specs.declared.errors.PlanError.TheVariants.{Unexpected}
use Rattle.plan_text.specs.Reader.{◌>>=◌, ends_early}
use Rattle.lexer.specs.Lexemes.{text_end}
use Rattle.brief_text.specs.Drafts.{Draft, no_items, with_item}
use Rattle.brief_text.specs.Items.{item_at}
use Rattle.brief_text.specs.Places.{Place}
use Rattle.brief_text.specs.Splitting.{plan_meant}
use Rattle.lexer.specs.declared.lexemes.Letters.{Letters}
use Rattle.brief_tokens.specs.Heads.{opened}
use Rattle.brief_tokens.specs.Tokens.{Tokens, next, last}

abbrev pub is_end : Tokens → Bool
is_end (last text_end line) = true
is_end tokens = false

-- the refusal of what stands first
abbrev pub unexpected : Tokens → PlanError
unexpected (next token line rest) = Unexpected line
unexpected (last ending line) = ends_early ending line

-- so many items at most, up to the end of the text
unfoldable pub items_in : Letters → ℕ → Draft → Place → Result Draft PlanError
items_in letters zero draft at = Err (unexpected at.tokens)
items_in letters (suc most) draft at =
    if is_end at.tokens then Ok draft
    else (item_at letters draft at >>= λ item. items_in letters most (with_item draft item.0) item.1)

-- What the items of a text add to those of the texts before it. It has fewer items than bytes, since each has a byte.
unfoldable pub text_read : Draft → List ℕ → Result Draft PlanError
text_read draft text = do
  head ← opened text
  items_in head.0 (length text) draft (record { tokens = head.1; nodes = 0; range = None })

-- the same of several texts, of which the first has this number; a refusal says which text it is in
abbrev pub in_text : {A : Type 0} → ℕ → Result A PlanError → Result A (ℕ × PlanError)
in_text k (Ok x) = Ok x
in_text k (Err e) = Err (k, e)

abbrev pub then_read : {A B E : Type 0} → Result A E → (A → Result B E) → Result B E
then_read (Ok x) f = f x
then_read (Err e) f = Err e

abbrev pub texts_read : ℕ → Draft → List (List ℕ) → Result Draft (ℕ × PlanError)
texts_read k draft [] = Ok draft
texts_read k draft (text ∷ texts) = then_read (in_text k (text_read draft text)) (λ more. texts_read (k + 1) more texts)

-- the whole text
unfoldable pub brief_read : List ℕ → Result Contents PlanError
brief_read text = do
  draft ← text_read no_items text
  Ok (plan_meant draft)

-- the texts, in this order
unfoldable pub briefs_read : List (List ℕ) → Result Contents (ℕ × PlanError)
briefs_read texts = then_read (texts_read 0 no_items texts) (λ draft. Ok (plan_meant draft))

-- the brief means this plan
abbrev pub Means : List ℕ → Contents → Type 0
Means text plan = brief_read text ≡ Ok plan

-- the brief is refused, and this is its first refusal
abbrev pub IsRefused : List ℕ → PlanError → Type 0
IsRefused text e = brief_read text ≡ Err e

-- the same of several briefs, whose items make up one plan; they are numbered from 0
abbrev pub AllMean : List (List ℕ) → Contents → Type 0
AllMean texts plan = briefs_read texts ≡ Ok plan

abbrev pub AllAreRefused : List (List ℕ) → ℕ → PlanError → Type 0
AllAreRefused texts k e = briefs_read texts ≡ Err (k, e)
