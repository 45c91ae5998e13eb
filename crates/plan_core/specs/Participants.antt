-- Who may take part: each controller with each of its messages, controller by controller, and then the interrupts, which
-- are our profile's.
use Rattle.std.specs.Prelude.{◌≡◌, ℕ, ◌+◌, Bool, false, ◌&&◌, ◌||◌, ◌==◌, List, [], ◌∷◌, ◌++◌, length, map, Option, Some}
use Rattle.std.specs.Prelude.{None, slice_get}
use Rattle.std.specs.List.{range_with_len, list_any}
use Rattle.message_tree.specs.declared.bits.Bit.{Bit}
use Rattle.message_tree.specs.Bits.{bits_below}
use Rattle.message_tree.specs.Texts.{Language, Sender, message, interrupt, SenderText}
use Rattle.message_tree.specs.Trees.{FrameTree}
use Rattle.plan_core.specs.declared.plans.Participant.{Participant}
use Rattle.plan_core.specs.declared.plans.Participant.TheVariants.{Sending, Interrupt}
use Rattle.plan_core.specs.Contents.{Contents}

-- the controllers from number c on, each with each of its messages
abbrev pub sendings_from : ℕ → List (List ℕ × List ℕ) → List Participant
sendings_from c [] = []
sendings_from c (k ∷ ks) = map (Sending c) k.1 ++ sendings_from (c + 1) ks

-- the participants of a plan, from number 0 on
abbrev pub participants_of : Contents → List Participant
participants_of plan =
    sendings_from 0 plan.controllers ++ map Interrupt (range_with_len 0 (length plan.interrupts))

abbrev pub participant_count : Contents → ℕ
participant_count plan = length (participants_of plan)

-- the seven bits of an interrupt's address, all of them known
abbrev pub interrupt_bits : ℕ → List Bit
interrupt_bits address = bits_below 7 127 address

abbrev pub message_sender : Option (List ℕ × FrameTree) → Option Sender
message_sender (Some m) = Some (message m.1)
message_sender None = None

abbrev pub interrupt_sender : Option (List ℕ × ℕ) → Option Sender
interrupt_sender (Some i) = Some (interrupt (interrupt_bits i.1))
interrupt_sender None = None

abbrev pub sender_of : Contents → Option Participant → Option Sender
sender_of plan (Some (Sending controller m)) = message_sender (slice_get plan.messages m)
sender_of plan (Some (Interrupt k)) = interrupt_sender (slice_get plan.interrupts k)
sender_of plan None = None

-- what participant p sends
unfoldable pub sender_at : Contents → ℕ → Option Sender
sender_at plan p = sender_of plan (slice_get (participants_of plan) p)

abbrev pub TextOf : Option Sender → Language
TextOf (Some sender) u = SenderText sender u
TextOf None u = ⊥

-- u is a text of participant p: what it can go through from the START to the end of its transmission
abbrev pub Text : Contents → ℕ → Language
Text plan p u = TextOf (sender_at plan p) u

-- participant p is an interrupt
abbrev pub IsInterrupt : Contents → ℕ → Type 0
IsInterrupt plan p = (k : ℕ) × (slice_get (participants_of plan) p ≡ Some (Interrupt k))

-- a `never` names these two controllers, in either order
abbrev pub names_both : ℕ → ℕ → ℕ × ℕ → Bool
names_both c d never = (never.0 == c && never.1 == d) || (never.0 == d && never.1 == c)

-- a `never` names them
abbrev pub is_never : Contents → ℕ → ℕ → Bool
is_never plan c d = list_any (names_both c d) plan.nevers

abbrev pub forbids_both : List (ℕ × ℕ) → Option Participant → Option Participant → Bool
forbids_both nevers (Some (Sending c m)) (Some (Sending d n)) = list_any (names_both c d) nevers
forbids_both nevers _ _ = false

-- both are sendings whose controllers stand in one `never`
unfoldable pub forbidden : Contents → ℕ → ℕ → Bool
forbidden plan x y = forbids_both plan.nevers (slice_get (participants_of plan) x) (slice_get (participants_of plan) y)

abbrev pub one_controller : Option Participant → Option Participant → Bool
one_controller (Some (Sending c m)) (Some (Sending d n)) = c == d
one_controller _ _ = false

-- both are sendings of one controller
unfoldable pub same_controller : Contents → ℕ → ℕ → Bool
same_controller plan x y = one_controller (slice_get (participants_of plan) x) (slice_get (participants_of plan) y)

-- x and y never start together
abbrev pub apart : Contents → ℕ → ℕ → Bool
apart plan x y = same_controller plan x y || forbidden plan x y
