-- Which items fit what the items before them make up, and the draft that a text makes of another.
use Rattle.std.specs.Prelude.{◌≡◌, ℕ, ◌+◌, Bool, true, All, List, [], ◌∷◌, ◌++◌, Option, Some, None, is_some, Ok}
use Rattle.message_tree.specs.Patterns.{address_bits}
use Rattle.message_tree.specs.Trees.{FrameTree}
use Rattle.plan_core.specs.Building.{size_refusal, interrupt_refusal}
use Rattle.brief_text.specs.declared.syntax.Lengths.{Lengths}
use Rattle.brief_text.specs.Drafts.{Draft, address_said, messages_meant, with_label, with_item}
use Rattle.brief_text.specs.Grammar.{Spells}
use Rattle.plan_core.specs.declared.builder.BuildError.{BuildError}
use Rattle.brief_text.specs.Items.{listed_refusal}
use Rattle.brief_text.specs.Judging.{named_refusal, message_refusal_of, range_refusal, controller_refusal_of, extend_refusal_of}
use Rattle.brief_text.specs.Judging.{listed_by, grouped_refusal, device_refusal, first_refusal, second_refusal}
use Rattle.brief_text.specs.Places.{is_known}
use Rattle.brief_text.specs.Trees.{Times, times, ranged, BriefFrame, write_to, read_from, BriefBytes, data_byte, made_byte}
use Rattle.brief_text.specs.Trees.{no_more, BriefTail, stop_here, go_on, Made, header, packet_code, checksum, chosen, BriefItem, device, device_group}
use Rattle.brief_text.specs.Trees.{byte, message, controller, extend, interrupt, never_both}
use Rattle.brief_text.specs.Words.{known_number}

-- ---- messages

abbrev pub knows_made : Draft → Made → Bool
knows_made draft (header reads to) = is_known draft.devices to
knows_made draft packet_code = true
knows_made draft checksum = true
knows_made draft (chosen choice) = true

-- each device and each byte that is named has been declared
abbrev mutual
  pub KnowsFrame : Draft → BriefFrame → Type 0
  KnowsFrame draft (write_to to refused acked) =
      (is_known draft.devices to ≡ true) × KnowsTail draft refused × KnowsBytes draft acked
  KnowsFrame draft (read_from to count refused after) =
      (is_known draft.devices to ≡ true) × KnowsTail draft refused × KnowsTail draft after

  pub KnowsBytes : Draft → BriefBytes → Type 0
  KnowsBytes draft (data_byte bits often refused acked) =
      (is_known draft.bytes bits ≡ true) × KnowsTail draft refused × KnowsBytes draft acked
  KnowsBytes draft (made_byte made refused acked) =
      (knows_made draft made ≡ true) × KnowsTail draft refused × KnowsBytes draft acked
  KnowsBytes draft (no_more tail) = KnowsTail draft tail

  pub KnowsTail : Draft → BriefTail → Type 0
  KnowsTail draft stop_here = Unit {0}
  KnowsTail draft (go_on frame) = KnowsFrame draft frame

-- how many of its bytes stand LO to HI times, or are choices
abbrev pub often_ranges : Times → ℕ
often_ranges (times n) = 0
often_ranges ranged = 1

abbrev pub made_ranges : Made → ℕ
made_ranges (chosen choice) = 1
made_ranges made = 0

abbrev mutual
  pub frame_ranges : BriefFrame → ℕ
  frame_ranges (write_to to refused acked) = tail_ranges refused + bytes_ranges acked
  frame_ranges (read_from to count refused after) = tail_ranges refused + tail_ranges after

  pub bytes_ranges : BriefBytes → ℕ
  bytes_ranges (data_byte bits often refused acked) = often_ranges often + tail_ranges refused + bytes_ranges acked
  bytes_ranges (made_byte made refused acked) = made_ranges made + tail_ranges refused + bytes_ranges acked
  bytes_ranges (no_more tail) = tail_ranges tail

  pub tail_ranges : BriefTail → ℕ
  tail_ranges stop_here = 0
  tail_ranges (go_on frame) = frame_ranges frame

-- a family has one such byte, and any other message has none
abbrev pub range_count : Option Lengths → ℕ
range_count None = 0
range_count (Some range) = 1

-- the family has names that may stand
abbrev pub IsAllowed : Draft → List ℕ → Option Lengths → Type 0
IsAllowed draft name None = Unit {0}
IsAllowed draft name (Some range) = range_refusal draft name range 0 range ≡ Ok range

-- its longest path, and the headers and bytes that it writes down, are within the limits
abbrev pub IsWithin : List ℕ × FrameTree → Type 0
IsWithin made = size_refusal made.1 ≡ None

pub record MessageFits (draft : Draft) (name : List ℕ) (range : Option Lengths) (frame : BriefFrame) : Type 0 where
  pub new : message_refusal_of draft name ≡ None
  pub knows : KnowsFrame draft frame
  pub ranges : frame_ranges frame ≡ range_count range
  pub members : IsAllowed draft name range
  pub grouped : grouped_refusal draft name range frame 0 range ≡ Ok range
  pub each : All IsWithin (messages_meant draft name range frame)

-- ---- items

-- each name may stand after these
abbrev pub ListFits : (List (List ℕ) → List ℕ → Option BuildError) → List (List ℕ) → List (List ℕ) → Type 0
ListFits refusal before [] = Unit {0}
ListFits refusal before (name ∷ names) = (refusal before name ≡ None) × ListFits refusal (before ++ name ∷ []) names

-- the item's names are new or known as they must be, and there is room for it
abbrev pub Fits : Draft → BriefItem → Type 0
Fits draft (device name address) = named_refusal draft.devices name ≡ None
Fits draft (byte name bits) = named_refusal draft.bytes name ≡ None
Fits draft (device_group name devices) = (named_refusal draft.devices name ≡ None) × ListFits (device_refusal draft) [] devices
Fits draft (message name range frame) = MessageFits draft name range frame
Fits draft (controller name messages) = (controller_refusal_of draft name ≡ None) × ListFits (listed_refusal draft []) [] messages
Fits draft (extend name messages) = (extend_refusal_of draft name ≡ None) × ListFits (listed_refusal draft (listed_by draft name)) [] messages
Fits draft (interrupt name to) =
    (interrupt_refusal draft.plan name ≡ None) × (is_known draft.devices to ≡ true)
    × (is_some (known_number 0 (address_bits (address_said draft to))) ≡ true)
Fits draft (never_both first second) =
    (first_refusal draft first ≡ None) × (second_refusal (with_label draft first) first second ≡ None)

-- each item fits what those before it make up, and this is what they all make up
abbrev pub MakeUp : Draft → List BriefItem → Draft → Type 0
MakeUp draft [] after = after ≡ draft
MakeUp draft (item ∷ items) after = Fits draft item × MakeUp (with_item draft item) items after

-- the text says items that make up a draft with those before it
pub record Says (text : List ℕ) (draft after : Draft) : Type 0 where
  pub items : List BriefItem
  pub spelled : Spells text items
  pub made : MakeUp draft items after
