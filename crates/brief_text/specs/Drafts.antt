-- What the items of briefs make up so far, and what each item adds to it.
use Rattle.std.specs.Prelude.{ℕ, zero, suc, ◌-◌, Bool, true, false, ◌&&◌, not, List, [], ◌∷◌, ◌++◌, map, Option, Some, None, is_some, unwrap_or}
use Rattle.std.specs.Prelude.{codes, decimal, if◌then◌else◌}
use Rattle.std.specs.List.{flat_map, list_any, range_with_len}
use Rattle.std.specs.Map.{lookup}
use Rattle.std.specs.Str.{bytes_eq}
use Rattle.message_tree.specs.declared.bits.Address.{Address}
use Rattle.message_tree.specs.declared.bits.Pattern.{Pattern}
use Rattle.message_tree.specs.Patterns.{address_bits}
use Rattle.message_tree.specs.Trees.{FrameTree, write, read, PayloadTree, last, TailTree, stop, again}
use Rattle.message_tree.specs.Trees as trees
use Rattle.plan_core.specs.Building.{with_message, with_interrupt}
use Rattle.plan_core.specs.Contents.{Contents, empty}
use Rattle.plan_text.specs.Values.{address_by}
use Rattle.brief_text.specs.declared.syntax.Lengths.{Lengths}
use Rattle.brief_text.specs.Trees.{Said, spelled, named, Times, times, ranged, BriefFrame, write_to, read_from, BriefBytes}
use Rattle.brief_text.specs.Trees.{data_byte, made_byte, no_more, BriefTail, stop_here, go_on, Made, header, packet_code, checksum, chosen}
use Rattle.brief_text.specs.Trees.{Side, BriefItem, device, byte, device_group, message, controller, extend, interrupt, never_both}
use Rattle.brief_text.specs.Codes.{at_start, unknown, after_bits, header_bits, exactly, remaining}
use Rattle.brief_text.specs.declared.codes.Path.{Path}
use Rattle.std.specs.Option.{option_map}
use Rattle.brief_text.specs.Choices.{chosen_bits}
use Rattle.brief_text.specs.Words.{any_byte, known_number}

pub record Draft : Type 0 where
  pub devices : List (List ℕ × Address)
  pub bytes : List (List ℕ × Pattern)
  -- the messages, those of families too, and the interrupts; it has no controllers yet
  pub plan : Contents
  -- each family with its LO and HI
  pub families : List (List ℕ × Lengths)
  -- each group with its devices; it stands among the devices too, as one of which no bit is known
  pub groups : List (List ℕ × List (List ℕ))
  -- each message in which a group stands, with the names that it makes: one for each device
  pub grouped : List (List ℕ × List (List ℕ))
  -- each controller with the names of all messages that it lists
  pub controllers : List (List ℕ × List (List ℕ))
  -- the labels in the order in which they were first named, and the `never` items as they are written
  pub labels : List Side
  pub nevers : List (Side × Side)

abbrev pub no_items : Draft
no_items = record { devices = []; bytes = []; plan = empty; families = []; groups = []; grouped = []; controllers = []; labels = []; nevers = [] }

-- ---- names

-- the value with this name, the first of them; `or` where there is none
abbrev pub value_or : {A : Type 0} → A → List (List ℕ × A) → Said A → A
value_or or entries (spelled value) = value
value_or or entries (named name) = unwrap_or (lookup (bytes_eq name) entries) or

abbrev pub any_address : Address
any_address = address_by 0 0

abbrev pub address_said : Draft → Said Address → Address
address_said draft to = value_or any_address draft.devices to

abbrev pub bits_said : Draft → Said Pattern → Pattern
bits_said draft bits = value_or any_byte draft.bytes bits

-- the number of an address, which is known in all bits
abbrev pub number_said : Draft → Said Address → ℕ
number_said draft to = unwrap_or (known_number 0 (address_bits (address_said draft to))) 0

-- `page_7` of the family `page`
abbrev pub member_name : List ℕ → ℕ → List ℕ
member_name name n = name ++ codes "_" ++ decimal n

-- LO, and so on to HI
abbrev pub lengths : Lengths → List ℕ
lengths range = range_with_len range.least (suc range.greatest - range.least)

abbrev pub members : List ℕ → Lengths → List (List ℕ)
members name range = map (member_name name) (lengths range)

-- all of the family with this name, or the message with it
abbrev pub members_or : List ℕ → Option Lengths → List (List ℕ)
members_or name (Some range) = members name range
members_or name None = name ∷ []

abbrev pub stands_alone_for : Draft → List ℕ → List (List ℕ)
stands_alone_for draft name = members_or name (lookup (bytes_eq name) draft.families)

-- the messages that a name stands for: where a group stands in it, those of the names that it makes
abbrev pub all_or : Draft → List ℕ → Option (List (List ℕ)) → List (List ℕ)
all_or draft name (Some names) = flat_map (stands_alone_for draft) names
all_or draft name None = stands_alone_for draft name

abbrev pub stands_for : Draft → List ℕ → List (List ℕ)
stands_for draft name = all_or draft name (lookup (bytes_eq name) draft.grouped)

-- the names that a message makes by a group; any other has none
abbrev pub names_made : Draft → List ℕ → List (List ℕ)
names_made draft name = unwrap_or (lookup (bytes_eq name) draft.grouped) []

-- ---- groups

abbrev pub is_group : Draft → List ℕ → Bool
is_group draft name = is_some (lookup (bytes_eq name) draft.groups)

abbrev pub devices_of : Draft → List ℕ → List (List ℕ)
devices_of draft group = unwrap_or (lookup (bytes_eq group) draft.groups) []

-- `vout_psu0` of the message `vout`, and those of all devices of a group
abbrev pub device_name : List ℕ → List ℕ → List ℕ
device_name name target = name ++ codes "_" ++ target

abbrev pub device_names : Draft → List ℕ → List ℕ → List (List ℕ)
device_names draft name group = map (device_name name) (devices_of draft group)

-- the draft where this device stands before all others, so that its name means it
abbrev pub put_first : Option (List ℕ × Address) → List (List ℕ × Address) → List (List ℕ × Address)
put_first None devices = devices
put_first (Some first) devices = first ∷ devices

abbrev pub standing : Draft → Option (List ℕ × Address) → Draft
standing draft first = record draft { devices = put_first first draft.devices }

-- the groups that stand in a message, as they are read
abbrev pub group_said : Draft → Said Address → List (List ℕ)
group_said draft (spelled address) = []
group_said draft (named name) = if is_group draft name then name ∷ [] else []

abbrev pub made_groups : Draft → Made → List (List ℕ)
made_groups draft (header reads to) = group_said draft to
made_groups draft packet_code = []
made_groups draft checksum = []
made_groups draft (chosen choice) = []

abbrev mutual
  pub frame_groups : Draft → BriefFrame → List (List ℕ)
  frame_groups draft (write_to to refused acked) = group_said draft to ++ (tail_groups draft refused ++ bytes_groups draft acked)
  frame_groups draft (read_from to count refused after) = group_said draft to ++ (tail_groups draft refused ++ tail_groups draft after)

  pub bytes_groups : Draft → BriefBytes → List (List ℕ)
  bytes_groups draft (data_byte bits often refused acked) = tail_groups draft refused ++ bytes_groups draft acked
  bytes_groups draft (made_byte made refused acked) = made_groups draft made ++ (tail_groups draft refused ++ bytes_groups draft acked)
  bytes_groups draft (no_more tail) = tail_groups draft tail

  pub tail_groups : Draft → BriefTail → List (List ℕ)
  tail_groups draft stop_here = []
  tail_groups draft (go_on frame) = frame_groups draft frame

-- ---- messages: names are looked up, repetitions are written out, and the byte of a range stands n times. Here bytes that
-- follow from others or are choices are open: it is the outline of a message, which has its size.

-- so many times the same byte, each with the same after it where it is not acknowledged
abbrev pub repeated : ℕ → Pattern → PayloadTree → TailTree → PayloadTree
repeated zero bits acked refused = acked
repeated (suc n) bits acked refused = trees.byte bits (repeated n bits acked refused) refused

abbrev pub how_often : ℕ → Times → ℕ
how_often n (times m) = m
how_often n ranged = n

abbrev mutual
  pub frame_meant : Draft → ℕ → BriefFrame → FrameTree
  frame_meant draft n (write_to to refused acked) =
      write (address_said draft to) (bytes_meant draft n acked) (tail_meant draft n refused)
  frame_meant draft n (read_from to count refused after) =
      read (address_said draft to) count (tail_meant draft n after) (tail_meant draft n refused)

  pub bytes_meant : Draft → ℕ → BriefBytes → PayloadTree
  bytes_meant draft n (data_byte bits often refused acked) =
      repeated (how_often n often) (bits_said draft bits) (bytes_meant draft n acked) (tail_meant draft n refused)
  bytes_meant draft n (made_byte made refused acked) =
      trees.byte any_byte (bytes_meant draft n acked) (tail_meant draft n refused)
  bytes_meant draft n (no_more tail) = last (tail_meant draft n tail)

  pub tail_meant : Draft → ℕ → BriefTail → TailTree
  tail_meant draft n stop_here = stop
  tail_meant draft n (go_on frame) = again (frame_meant draft n frame)

-- ---- the same with the bytes that follow from others, by the path up to them, and with block n of a choice

-- each copy of what stands where the byte is not acknowledged is on a path of its own
abbrev pub repeated_on : ℕ → Pattern → (Path → PayloadTree) → (Path → TailTree) → Path → PayloadTree
repeated_on zero bits acked refused path = acked path
repeated_on (suc n) bits acked refused path =
    trees.byte bits (repeated_on n bits acked refused (after_bits path bits)) (refused (after_bits path bits))

abbrev pub made_bits : Draft → ℕ → Made → Path → Pattern
made_bits draft n (header reads to) path = header_bits reads (address_said draft to)
made_bits draft n packet_code path = exactly path.code
made_bits draft n checksum path = exactly (option_map remaining path.sum)
made_bits draft n (chosen choice) path = chosen_bits choice n

-- after such a byte, of these bits: after a checksum the next one begins anew
abbrev pub after_made : Made → Path → Pattern → Path
after_made checksum path bits = record (after_bits path bits) { sum = Some 0 }
after_made made path bits = after_bits path bits

abbrev pub after_header : Draft → Bool → Said Address → Path → Path
after_header draft reads to path = after_bits path (header_bits reads (address_said draft to))

abbrev mutual
  pub frame_on : Draft → ℕ → BriefFrame → Path → FrameTree
  frame_on draft n (write_to to refused acked) path =
      write (address_said draft to) (bytes_on draft n acked (after_header draft false to path)) (tail_on draft n refused (after_header draft false to path))
  frame_on draft n (read_from to count refused after) path =
      read (address_said draft to) count (tail_on draft n after unknown) (tail_on draft n refused (after_header draft true to path))

  pub bytes_on : Draft → ℕ → BriefBytes → Path → PayloadTree
  bytes_on draft n (data_byte bits often refused acked) path =
      repeated_on (how_often n often) (bits_said draft bits) (bytes_on draft n acked) (tail_on draft n refused) path
  bytes_on draft n (made_byte made refused acked) path =
      trees.byte (made_bits draft n made path) (bytes_on draft n acked (after_made made path (made_bits draft n made path)))
      (tail_on draft n refused (after_made made path (made_bits draft n made path)))
  bytes_on draft n (no_more tail) path = last (tail_on draft n tail path)

  pub tail_on : Draft → ℕ → BriefTail → Path → TailTree
  tail_on draft n stop_here path = stop
  tail_on draft n (go_on frame) path = again (frame_on draft n frame path)

abbrev pub member_meant : Draft → List ℕ → BriefFrame → ℕ → List ℕ × FrameTree
member_meant draft name frame n = (member_name name n, frame_on draft n frame at_start)

abbrev pub family_meant : Draft → List ℕ → Lengths → BriefFrame → List (List ℕ × FrameTree)
family_meant draft name range frame = map (member_meant draft name frame) (lengths range)

-- the messages that a message makes: itself, or those of its family
abbrev pub messages_meant : Draft → List ℕ → Option Lengths → BriefFrame → List (List ℕ × FrameTree)
messages_meant draft name None frame = (name, frame_on draft 1 frame at_start) ∷ []
messages_meant draft name (Some range) frame = family_meant draft name range frame

-- the same for each device of a group, which stands in the place of that
abbrev pub device_meant : Draft → List ℕ → Option Lengths → BriefFrame → List ℕ → List ℕ → List (List ℕ × FrameTree)
device_meant draft name range frame group target =
    messages_meant (standing draft (Some (group, address_said draft (named target)))) (device_name name target) range frame

abbrev pub grouped_meant : Draft → List ℕ → Option Lengths → BriefFrame → List ℕ → List (List ℕ × FrameTree)
grouped_meant draft name range frame group = flat_map (device_meant draft name range frame group) (devices_of draft group)

-- ---- items

-- the plan with these messages
abbrev pub with_messages : Contents → List (List ℕ × FrameTree) → Contents
with_messages plan [] = plan
with_messages plan (first ∷ messages) = with_messages (with_message plan first.0 first.1) messages

abbrev pub with_family : Draft → List ℕ → Option Lengths → List (List ℕ × Lengths)
with_family draft name None = draft.families
with_family draft name (Some range) = draft.families ++ (name, range) ∷ []

-- where it has a range, each of these names is that of a family
abbrev pub families_of : Option Lengths → List (List ℕ) → List (List ℕ × Lengths)
families_of None names = []
families_of (Some range) names = map (λ name. (name, range)) names

-- the draft with a message, in which these groups stand: one at most
abbrev pub with_made : Draft → List ℕ → Option Lengths → BriefFrame → List (List ℕ) → Draft
with_made draft name range frame [] = record draft {
  plan = with_messages draft.plan (messages_meant draft name range frame);
  families = with_family draft name range;
}
with_made draft name range frame (group ∷ others) = record draft {
  plan = with_messages draft.plan (grouped_meant draft name range frame group);
  families = draft.families ++ families_of range (device_names draft name group);
  grouped = draft.grouped ++ (name, device_names draft name group) ∷ [];
}

abbrev pub same_label : Option (List ℕ) → Option (List ℕ) → Bool
same_label None None = true
same_label (Some label) (Some other) = bytes_eq label other
same_label label other = false

abbrev pub same_side : Side → Side → Bool
same_side side other = bytes_eq side.controller other.controller && same_label side.label other.label

-- the side has a label that has not been named yet
abbrev pub is_new_label : Draft → Side → Bool
is_new_label draft side = is_some side.label && not (list_any (λ other. same_side other side) draft.labels)

abbrev pub with_label : Draft → Side → Draft
with_label draft side = if is_new_label draft side then record draft { labels = draft.labels ++ side ∷ [] } else draft

abbrev pub with_never_both : Draft → Side → Side → Draft
with_never_both draft first second = record (with_label (with_label draft first) second) { nevers = draft.nevers ++ (first, second) ∷ [] }

-- the controller of this name lists these messages as well, at the end
abbrev pub extended : List ℕ → List (List ℕ) → List (List ℕ × List (List ℕ)) → List (List ℕ × List (List ℕ))
extended name messages [] = []
extended name messages (first ∷ controllers) =
    if bytes_eq name first.0 then (first.0, first.1 ++ messages) ∷ controllers
    else first ∷ extended name messages controllers

-- the draft with an item
unfoldable pub with_item : Draft → BriefItem → Draft
with_item draft (device name address) = record draft { devices = draft.devices ++ (name, address) ∷ [] }
with_item draft (byte name bits) = record draft { bytes = draft.bytes ++ (name, bits) ∷ [] }
with_item draft (device_group name devices) =
    record draft { devices = draft.devices ++ (name, any_address) ∷ []; groups = draft.groups ++ (name, devices) ∷ [] }
with_item draft (message name range frame) = with_made draft name range frame (frame_groups draft frame)
with_item draft (controller name messages) =
    record draft { controllers = draft.controllers ++ (name, flat_map (stands_for draft) messages) ∷ [] }
with_item draft (extend name messages) =
    record draft { controllers = extended name (flat_map (stands_for draft) messages) draft.controllers }
with_item draft (interrupt name to) = record draft { plan = with_interrupt draft.plan name (number_said draft to) }
with_item draft (never_both first second) = with_never_both draft first second
