-- What the runs of a plan leave on the wires, and so who explains a transaction, in terms of runs.
use Rattle.std.specs.Prelude.{◌≡◌, ℕ, ◌⊎◌, List, [], ◌∷◌, ◌++◌, take}
use Rattle.message_tree.specs.declared.items.Item.{Item}
use Rattle.message_tree.specs.declared.items.Item.TheVariants.{Stop, Claim}
use Rattle.plan_core.specs.Contents.{Contents}
use Rattle.plan_core.specs.Lawful.{Set, In}
use Rattle.plan_core.specs.Runs.{IsReached}
use Rattle.capture_check.specs.declared.listening.Mark.{Mark}
use Rattle.capture_check.specs.Marks.{LeaveAll}

-- the wire ends with a STOP, and its slots leave these marks
abbrev pub StopsWith : List Item → List Mark → Type 0
StopsWith u marks = ((v : List Item) × (u ≡ v ++ Stop ∷ [])) × LeaveAll u marks

-- the wire ends with a claim, and its first eight slots leave the first eight of these marks
abbrev pub ClaimsBehind : List Item → List Mark → Type 0
ClaimsBehind u marks = ((v : List Item) × (u ≡ v ++ Claim ∷ [])) × LeaveAll (take 8 u) (take 8 marks)

-- a run with this wire has ended with these marks
abbrev pub EndsWithMarks : List Item → List Mark → Type 0
EndsWithMarks u marks = StopsWith u marks ⊎ ClaimsBehind u marks

-- some run of the plan, from some who may start together, ends with these marks
abbrev pub SomeRunEndsWith : Contents → List Mark → Type 0
SomeRunEndsWith plan marks =
    (u : List Item) × (s : Set) × (live : Set) × IsReached plan s u live × EndsWithMarks u marks

-- the same, and p has not lost arbitration in that run
abbrev pub EndsRunWith : Contents → List Mark → ℕ → Type 0
EndsRunWith plan marks p =
    (u : List Item) × (s : Set) × (live : Set) × IsReached plan s u live × In p live × EndsWithMarks u marks
