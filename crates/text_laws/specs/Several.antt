-- What several briefs say together.
use Rattle.std.specs.Prelude.{◌≡◌, ℕ, List, [], ◌∷◌, Ok}
use Rattle.std.specs.List.{flat_map}
use Rattle.plan_core.specs.Contents.{Contents}
use Rattle.brief_text.specs.Drafts.{Draft, no_items}
use Rattle.brief_text.specs.Briefs.{texts_read}
use Rattle.brief_text.specs.Fitting.{MakeUp}
use Rattle.brief_text.specs.Grammar.{Spells}
use Rattle.brief_text.specs.Splitting.{plan_meant}
use Rattle.brief_text.specs.Trees.{BriefItem}

-- each text spells its own items
abbrev pub EachSpells : List (List ℕ) → List (List BriefItem) → Type 0
EachSpells [] [] = Unit {0}
EachSpells (text ∷ texts) (items ∷ lists) = Spells text items × EachSpells texts lists
EachSpells texts lists = ⊥

-- the items of all texts, in their order
abbrev pub all_items : List (List BriefItem) → List BriefItem
all_items lists = flat_map (λ items. items) lists

-- each item fits those before it, and this is the plan that they make up
abbrev pub MakeUpPlan : List BriefItem → Contents → Type 0
MakeUpPlan items plan = (draft : Draft) × MakeUp no_items items draft × (plan ≡ plan_meant draft)

-- the items of briefs that were read, one after another, make up this draft
abbrev pub WasRead : Draft → Type 0
WasRead draft = (texts : List (List ℕ)) × (texts_read 0 no_items texts ≡ Ok draft)
