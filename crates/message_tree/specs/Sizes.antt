-- How large a message is.
use Rattle.std.specs.Prelude.{◌≡◌, ℕ, ◌+◌, ◌*◌, ◌^◌, ◌-◌, ◌≤◌, max, min, List, [], ◌∷◌, length}
use Rattle.message_tree.specs.declared.items.Item.{Item}
use Rattle.message_tree.specs.declared.items.Item.TheVariants.{Sent, Heard}
use Rattle.message_tree.specs.Counts.{greatest_of}
use Rattle.message_tree.specs.Texts.{Language}
use Rattle.message_tree.specs.Trees.{FrameTree, write, read, PayloadTree, byte, last, TailTree, stop, again}

-- the bytes on the longest path: headers, bytes that are sent, and as many read bytes as the range allows
abbrev mutual
  pub frame_bytes : FrameTree → ℕ
  frame_bytes (write address acked refused) = max (payload_bytes acked) (tail_bytes refused) + 1
  frame_bytes (read address count after refused) = max (tail_bytes after + greatest_of count) (tail_bytes refused) + 1

  pub payload_bytes : PayloadTree → ℕ
  payload_bytes (byte bits acked refused) = max (payload_bytes acked) (tail_bytes refused) + 1
  payload_bytes (last tail) = tail_bytes tail

  pub tail_bytes : TailTree → ℕ
  tail_bytes stop = 0
  tail_bytes (again frame) = frame_bytes frame

-- the headers and bytes that the plan writes down
abbrev mutual
  pub frame_nodes : FrameTree → ℕ
  frame_nodes (write address acked refused) = payload_nodes acked + tail_nodes refused + 1
  frame_nodes (read address count after refused) = tail_nodes after + tail_nodes refused + 1

  pub payload_nodes : PayloadTree → ℕ
  payload_nodes (byte bits acked refused) = payload_nodes acked + tail_nodes refused + 1
  payload_nodes (last tail) = tail_nodes tail

  pub tail_nodes : TailTree → ℕ
  tail_nodes stop = 0
  tail_nodes (again frame) = frame_nodes frame

-- the slots of the longest text: nine a byte, and one for each repeated START and for the STOP
abbrev mutual
  pub frame_slots : FrameTree → ℕ
  frame_slots (write address acked refused) = max (payload_slots acked) (tail_slots refused) + 9
  frame_slots (read address count after refused) =
      max (tail_slots after + 9 * greatest_of count) (tail_slots refused) + 9

  pub payload_slots : PayloadTree → ℕ
  payload_slots (byte bits acked refused) = max (payload_slots acked) (tail_slots refused) + 9
  payload_slots (last tail) = tail_slots tail

  pub tail_slots : TailTree → ℕ
  tail_slots stop = 1
  tail_slots (again frame) = frame_slots frame + 1

-- n is the most that these lists have of something: one has that much, and none has more
pub record IsMost (amount : List Item → ℕ) (P : Language) (n : ℕ) : Type 0 where
  pub reached : (u : List Item) × P u × (amount u ≡ n)
  pub bound : (u : List Item) → P u → amount u ≤ n

-- n is the length of a longest one of these lists
abbrev pub IsLongest : Language → ℕ → Type 0
IsLongest P n = IsMost length P n

-- the bits on a wire: eight and an acknowledge for each byte (UM10204, 3.1.5 and 3.1.6)
abbrev pub bits_in : List Item → ℕ
bits_in [] = 0
bits_in (Sent b ∷ u) = bits_in u + 1
bits_in (Heard b ∷ u) = bits_in u + 1
bits_in (_ ∷ u) = bits_in u

-- n, or u32::MAX where that is less
abbrev pub capped : ℕ → ℕ
capped n = min n (2 ^ 32 - 1)
