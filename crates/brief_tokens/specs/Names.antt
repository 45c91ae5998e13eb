-- The names that a plan may have and a brief can't.
use Rattle.std.specs.Prelude.{◌≡◌, ℕ, Bool, true, ◌||◌, List, [], ◌∷◌, ◌++◌, Option, codes}
use Rattle.std.specs.List.{list_any, find}
use Rattle.std.specs.Map.{keys_of}
use Rattle.std.specs.Str.{bytes_eq}
use Rattle.plan_core.specs.Contents.{Contents}
use Rattle.plan_text.specs.declared.briefs.NoBrief.{NoBrief}
use Rattle.plan_text.specs.declared.briefs.NoBrief.TheVariants as cause

-- the words of briefs that are no words of the plan's text
abbrev pub is_brief_word : List ℕ → Bool
is_brief_word bytes =
    list_any (bytes_eq bytes) (codes "brief" ∷ codes "device" ∷ codes "byte" ∷ codes "any" ∷ [])

-- the words of the second version alone
abbrev pub is_board_word : List ℕ → Bool
is_board_word bytes =
    list_any (bytes_eq bytes) (codes "with" ∷ codes "group" ∷ codes "extend" ∷ codes "but" ∷ codes "wr" ∷ codes "rd" ∷ codes "pec" ∷ codes "sum" ∷ [])

-- a message, a controller or an interrupt has such a word as its name
abbrev pub has_brief_word : Contents → Bool
has_brief_word plan =
    list_any is_brief_word (keys_of plan.messages) || list_any is_brief_word (keys_of plan.controllers)
    || list_any is_brief_word (keys_of plan.interrupts)

-- the first name that is such a word: of the messages, then of the controllers, then of the interrupts
abbrev pub first_brief_word : Contents → Option (List ℕ)
first_brief_word plan = find is_brief_word (keys_of plan.messages ++ (keys_of plan.controllers ++ keys_of plan.interrupts))

-- this is why the plan has no brief
abbrev pub LacksBrief : Contents → NoBrief → Type 0
LacksBrief plan cause.Name = has_brief_word plan ≡ true
LacksBrief plan cause.NoMemory = ⊥
