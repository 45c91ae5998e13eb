-- Which paths a message has that was seen on a bus: what `twire learn` says that it was made of.
use Rattle.std.specs.Prelude.{ℕ, Bool, true, false, ◌&&◌, ◌||◌, ◌==◌, bit_and, bit_xor, List, [], ◌∷◌, Option, Some, None}
use Rattle.std.specs.Prelude.{is_none, slice_get}
use Rattle.lessons.specs.declared.trees.After.{After}
use Rattle.lessons.specs.declared.trees.After.TheVariants.{Unseen, Stop, On}
use Rattle.lessons.specs.declared.trees.Node.{Node}
use Rattle.lessons.specs.declared.paths.Sent.{Sent}
use Rattle.lessons.specs.declared.paths.Sent.TheVariants.{Write, Register, Data, Read}
use Rattle.lessons.specs.declared.paths.Step.{Step}

abbrev pub same_count : Option ℕ → Option ℕ → Bool
same_count None None = true
same_count (Some one) (Some other) = one == other
same_count _ _ = false

-- Whether what is sent at a place may be this: the same, but for the open bits of data and for a count that nobody saw.
abbrev pub may_send : Sent → (known : ℕ) → Sent → Bool
may_send (Write one) known (Write other) = one == other
may_send (Register one) known (Register other) = one == other
may_send (Data one) known (Data other) = bit_and (bit_xor one other) known == 0
may_send (Read one count) known (Read other its) = one == other && (is_none its || same_count count its)
may_send _ known _ = false

abbrev pub after_answer : Node → (refused : Bool) → After
after_answer node true = node.refused
after_answer node false = node.acked

-- From here on each step is what may be sent at its place, its answer leads to the next one, and after the last one comes the
-- STOP.
abbrev pub path_from : List Node → After → List Step → Bool
path_from nodes Stop [] = true
path_from nodes (On place) (step ∷ steps) = elim (slice_get nodes place) [
  | None ↦ false
  | Some node ↦ may_send node.sent node.known step.sent && path_from nodes (after_answer node step.refused) steps
]
path_from nodes _ _ = false

-- A message with these places has this path.
abbrev pub has_path : List Node → List Step → Bool
has_path nodes path = path_from nodes (On 0) path

-- This number is that of a path that the message has.
abbrev pub is_had : List Node → List (List Step) → ℕ → Bool
is_had nodes paths number = elim (slice_get paths number) [
  | None ↦ false
  | Some path ↦ has_path nodes path
]
