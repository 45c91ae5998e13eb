-- The cause of an unsafe pair: which kinds of items meet between which families, in which frame of which address, and in which
-- part of it.
use Rattle.std.specs.Prelude.{ℕ, ◌+◌, ◌*◌, ◌/◌, Bool, true, false, ◌&&◌, ◌||◌, not, nat_lt, List, fold, length, map, slice_index_or, if◌then◌else◌}
use Rattle.message_tree.specs.declared.items.Item.{Item}
use Rattle.message_tree.specs.declared.items.Item.TheVariants.{Sent, Heard, Again, Stop, Claim}
use Rattle.message_tree.specs.declared.items.Kind.{Kind}
use Rattle.message_tree.specs.declared.items.Kind.TheVariants as kind
use Rattle.certificate.specs.declared.values.Fault.{Fault}
use Rattle.plan_core.specs.Contents.{Contents}
use Rattle.plan_core.specs.Pairs.{pairs_of}
use Rattle.causes.specs.declared.families.Family.{Family}
use Rattle.causes.specs.declared.families.Family.TheVariants as family
use Rattle.causes.specs.declared.meetings.Cause.{Cause}
use Rattle.causes.specs.declared.meetings.Place.{Place}
use Rattle.causes.specs.declared.meetings.Place.TheVariants.{Header, Data, Byte}
use Rattle.causes.specs.declared.sides.Side.{Side}
use Rattle.causes.specs.Families.{family_at, is_several}

-- ---- which side comes first

abbrev pub rank : Kind → ℕ
rank kind.Sent = 0
rank kind.Heard = 1
rank kind.Again = 2
rank kind.Stop = 3
rank kind.Claim = 4

-- messages by their first, and then interrupts
abbrev pub is_lower : Family → Family → Bool
is_lower (family.Messages m count) (family.Messages n other) = nat_lt m n
is_lower (family.Messages m count) (family.Interrupt k) = true
is_lower (family.Interrupt k) (family.Messages m count) = false
is_lower (family.Interrupt k) (family.Interrupt l) = nat_lt k l

-- by family, and in one family by kind
abbrev pub comes_before : Side → Side → Bool
comes_before a b =
    is_lower a.family b.family || (not (is_lower b.family a.family) && nat_lt (rank a.kind) (rank b.kind))

unfoldable pub in_order : Side → Side → Side × Side
in_order a b = if comes_before b a then (b, a) else (a, b)

-- ---- where they meet

abbrev pub after_item : ℕ × ℕ → Item → ℕ × ℕ
after_item at Again = (at.0 + 1, 0)
after_item at _ = (at.0, at.1 + 1)

-- the frame that the slot after a wire lies in, and its number in that frame: a repeated START begins the next frame
unfoldable pub slot_after : List Item → ℕ × ℕ
slot_after wire = fold after_item (0, 0) wire

-- the first eight bits of a frame, as digits after a 1
abbrev pub with_bit : ℕ → Bool → ℕ
with_bit header bit = if nat_lt header 256 then (if bit then header * 2 + 1 else header * 2) else header

abbrev pub with_item : ℕ → Item → ℕ
with_item header Again = 1
with_item header (Sent bit) = with_bit header bit
with_item header (Heard bit) = header
with_item header Stop = header
with_item header Claim = header

-- those of the frame that the slot after a wire lies in: its address and its R/W bit, as far as they are on the wire
unfoldable pub header_before : List Item → ℕ
header_before wire = fold with_item 1 wire

-- the header has nine slots, and each byte after it has nine
abbrev pub place_of : ℕ → Bool → Place
place_of slot several = if nat_lt slot 9 then Header else if several then Data else Byte (slot / 9)

-- ---- the cause

abbrev pub meet : Side × Side → ℕ × ℕ → ℕ → Cause
meet sides at header = record {
  first = sides.0;
  second = sides.1;
  frame = at.0;
  header = header;
  place = place_of at.1 (is_several sides.0.family || is_several sides.1.family);
}

abbrev pub side_at : Contents → List Family → ℕ → Kind → Side
side_at plan families x kind = record { family = family_at plan families x; kind = kind }

abbrev pub sides_of : Contents → List Family → ℕ × ℕ → Fault → Side × Side
sides_of plan families pair fault =
    in_order (side_at plan families pair.0 fault.first) (side_at plan families pair.1 fault.second)

-- the cause of the pair with this number, whose fault this is, where these are the families of the messages
unfoldable pub cause_of : Contents → List Family → ℕ × Fault → Cause
cause_of plan families found =
    meet (sides_of plan families (slice_index_or (pairs_of plan) found.0 (0, 0)) found.1) (slot_after found.1.wire.items)
    (header_before found.1.wire.items)

abbrev pub causes_of : Contents → List Family → List (ℕ × Fault) → List Cause
causes_of plan families faults = map (cause_of plan families) faults

-- the lengths of their wires
abbrev pub wires_of : List (ℕ × Fault) → List ℕ
wires_of faults = map (λ found. length found.1.wire.items) faults
