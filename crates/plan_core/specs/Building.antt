-- What each call of a builder adds, and when it is refused.
use Rattle.std.specs.Prelude.{◌≡◌, ℕ, ◌+◌, Bool, true, false, ◌||◌, not, nat_le, nat_lt, List, [], ◌∷◌, ◌++◌, length}
use Rattle.std.specs.Prelude.{position, Option, Some, None, is_some, Result, Ok, Err, unwrap_or, if◌then◌else◌}
use Rattle.std.specs.List.{list_any, filter_map}
use Rattle.std.specs.Map.{keys_of}
use Rattle.std.specs.Str.{bytes_eq}
use Rattle.message_tree.specs.Sizes.{frame_bytes, frame_nodes}
use Rattle.message_tree.specs.Trees.{FrameTree}
use Rattle.plan_core.specs.declared.limits.TheConstants.{MOST_MESSAGES, MOST_CONTROLLERS, MOST_INTERRUPTS}
use Rattle.plan_core.specs.declared.limits.TheConstants.{MOST_SENDINGS, MOST_BYTES, MOST_NODES}
use Rattle.plan_core.specs.Contents.{Contents}
use Rattle.plan_core.specs.Limits.{sending_count}
use Rattle.plan_core.specs.Participants.{is_never}
use Rattle.plan_core.specs.declared.builder.BuildError.{BuildError}
use Rattle.plan_core.specs.declared.builder.BuildError.TheVariants.{Twice, Unknown, TooMany, TooLong, NoMemory}

-- The answer of a call that may refuse: the refusal that is due; where none is due, it succeeds, or there is no memory.
abbrev pub RefusesExactly : {T : Type 0} → Option BuildError → Result T BuildError → Type 0
RefusesExactly (Some due) (Ok done) = ⊥
RefusesExactly (Some due) (Err e) = e ≡ due
RefusesExactly None (Ok done) = Unit {0}
RefusesExactly None (Err e) = e ≡ NoMemory

-- the first of two refusals, where there is one
abbrev pub or_else : Option BuildError → Option BuildError → Option BuildError
or_else (Some e) later = Some e
or_else None later = later

-- the number of the entry with this name
abbrev pub number_of : {X : Type 0} → List ℕ → List (List ℕ × X) → Option ℕ
number_of name entries = position (bytes_eq name) (keys_of entries)

abbrev pub has_name : {X : Type 0} → List ℕ → List (List ℕ × X) → Bool
has_name name entries = is_some (number_of name entries)

-- why a message of this name is refused, whatever its frame: it stands already, or there are as many as there may be
unfoldable pub message_name_refusal : Contents → List ℕ → Option BuildError
message_name_refusal plan name =
    if has_name name plan.messages then Some Twice
    else if nat_le MOST_MESSAGES (length plan.messages) then Some TooMany
    else None

-- the same of a controller, whatever its messages
unfoldable pub controller_name_refusal : Contents → List ℕ → Option BuildError
controller_name_refusal plan name =
    if has_name name plan.controllers then Some Twice
    else if nat_le MOST_CONTROLLERS (length plan.controllers) then Some TooMany
    else None

-- why a frame is refused: it has too many nodes, or a path with too many bytes
unfoldable pub size_refusal : FrameTree → Option BuildError
size_refusal frame =
    if nat_lt MOST_NODES (frame_nodes frame) || nat_lt MOST_BYTES (frame_bytes frame) then Some TooLong else None

-- why a message is refused: for its name, or for its frame
unfoldable pub message_refusal : Contents → List ℕ → FrameTree → Option BuildError
message_refusal plan name frame = or_else (message_name_refusal plan name) (size_refusal frame)

unfoldable pub with_message : Contents → List ℕ → FrameTree → Contents
with_message plan name frame = record plan { messages = plan.messages ++ (name, frame) ∷ [] }

-- why a controller's list of messages is refused, name by name: there is no such message, it stands before in the
-- list, or the plan would have too many sendings
abbrev pub list_refusal : Contents → List (List ℕ) → List (List ℕ) → Option BuildError
list_refusal plan before [] = None
list_refusal plan before (name ∷ names) =
    if not (has_name name plan.messages) then Some Unknown
    else if list_any (λ other. bytes_eq other name) before then Some Twice
    else if nat_le MOST_SENDINGS (sending_count plan.controllers + length before) then Some TooMany
    else list_refusal plan (before ++ name ∷ []) names

-- why a controller is refused: for its name, or for its list
unfoldable pub controller_refusal : Contents → List ℕ → List (List ℕ) → Option BuildError
controller_refusal plan name messages = or_else (controller_name_refusal plan name) (list_refusal plan [] messages)

-- the numbers of the messages with these names
abbrev pub numbers_of : Contents → List (List ℕ) → List ℕ
numbers_of plan names = filter_map (λ name. number_of name plan.messages) names

-- a controller more, which may send the messages with these numbers
unfoldable pub with_sender : Contents → List ℕ → List ℕ → Contents
with_sender plan name messages = record plan { controllers = plan.controllers ++ (name, messages) ∷ [] }

abbrev pub with_controller : Contents → List ℕ → List (List ℕ) → Contents
with_controller plan name messages = with_sender plan name (numbers_of plan messages)

-- why an interrupt is refused: its name stands already, or there are as many as there may be
unfoldable pub interrupt_refusal : Contents → List ℕ → Option BuildError
interrupt_refusal plan name =
    if has_name name plan.interrupts then Some Twice
    else if nat_le MOST_INTERRUPTS (length plan.interrupts) then Some TooMany
    else None

unfoldable pub with_interrupt : Contents → List ℕ → ℕ → Contents
with_interrupt plan name address = record plan { interrupts = plan.interrupts ++ (name, address) ∷ [] }

-- why a `never` of two controllers is refused, by what their names stand for and by whether the names are equal
abbrev pub two_refusal : Contents → Option ℕ → Bool → Option ℕ → Option BuildError
two_refusal plan None same second = Some Unknown
two_refusal plan (Some c) true second = Some Twice
two_refusal plan (Some c) false None = Some Unknown
two_refusal plan (Some c) false (Some d) = if is_never plan c d then Some Twice else None

unfoldable pub never_refusal : Contents → List ℕ → List ℕ → Option BuildError
never_refusal plan first second =
    two_refusal plan (number_of first plan.controllers) (bytes_eq first second) (number_of second plan.controllers)

-- the number of the controller with this name, and 0 where there is none
abbrev pub controller_number : Contents → List ℕ → ℕ
controller_number plan name = unwrap_or (number_of name plan.controllers) 0

unfoldable pub with_never : Contents → List ℕ → List ℕ → Contents
with_never plan first second =
    record plan { nevers = plan.nevers ++ (controller_number plan first, controller_number plan second) ∷ [] }
