-- Frames by number: each is written in terms of the numbers of those before it, and stands for a tree. Only AreLaid, private
-- contracts and proofs use this.
use Rattle.std.specs.Prelude.{◌≡◌, ℕ, suc, ◌+◌, ◌<◌, ◌≤◌, ◌^◌, max, Option, Some, None, List, [], ◌∷◌, ◌++◌, length, map, take, drop, get_or, slice_get}
use Rattle.message_tree.specs.Sizes.{frame_slots}
use Rattle.message_tree.specs.Patterns.{pattern_bits}
use Rattle.message_tree.specs.Texts.{FrameText, PayloadText, write_header, read_header}
use Rattle.message_tree.specs.Trees.{FrameTree, write, read, PayloadTree, last, TailTree, stop, again}
use Rattle.arbitration.specs.declared.beginnings.Beginning.{Beginning}
use Rattle.arbitration.specs.declared.frames.Entry.{Entry}
use Rattle.arbitration.specs.declared.frames.NumberedFrame.{NumberedFrame}
use Rattle.arbitration.specs.declared.frames.NumberedFrame.TheVariants.{Write, Read}
use Rattle.arbitration.specs.declared.frames.NumberedRead.{NumberedRead}
use Rattle.arbitration.specs.declared.frames.NumberedWrite.{NumberedWrite}
use Rattle.arbitration.specs.declared.rows.Next.{Next}
use Rattle.arbitration.specs.declared.rows.Next.TheVariants.{Stop, Again}
use Rattle.arbitration.specs.declared.rows.NumberedByte.{NumberedByte}
use Rattle.arbitration.specs.declared.rows.Row.{Row}
use Rattle.arbitration.specs.declared.spans.Outcomes.{Outcomes}
use Rattle.arbitration.specs.Choices.{AreChoices}
use Rattle.arbitration.specs.Ways.{AreOutcomes, IsBeginning, Step, with_bytes}

-- this is the number of the frame
abbrev pub Names : List FrameTree → ℕ → FrameTree → Type 0
Names known n f = slice_get known n ≡ Some f

-- ---- the trees that numbers stand for

abbrev pub again_or_stop : Option FrameTree → TailTree
again_or_stop None = stop
again_or_stop (Some f) = again f

abbrev pub next_tree : List FrameTree → Next → TailTree
next_tree known Stop = stop
next_tree known (Again n) = again_or_stop (slice_get known n)

abbrev pub step_of : List FrameTree → NumberedByte → Step
step_of known b = record { bits = b.bits; refused = next_tree known b.refused }

abbrev pub steps_of : List FrameTree → Row → List Step
steps_of known row = map (step_of known) row.bytes.items

-- what follows n of the bytes, and what all of them are with what follows
abbrev pub rest_after : ℕ → List FrameTree → Row → PayloadTree
rest_after n known row = with_bytes (drop n (steps_of known row)) (last (next_tree known row.last))

abbrev pub row_tree : List FrameTree → Row → PayloadTree
row_tree known row = with_bytes (steps_of known row) (last (next_tree known row.last))

abbrev pub write_of : List FrameTree → NumberedWrite → FrameTree
write_of known w = write w.address (row_tree known w.acked) (next_tree known w.refused)

abbrev pub read_of : List FrameTree → NumberedRead → FrameTree
read_of known r = read r.address r.count (next_tree known r.after) (next_tree known r.refused)

abbrev pub frame_of : List FrameTree → NumberedFrame → FrameTree
frame_of known (Write w) = write_of known w
frame_of known (Read r) = read_of known r

-- the trees of the entries, each in terms of those before it
abbrev pub trees_after : List FrameTree → List Entry → List FrameTree
trees_after known [] = known
trees_after known (e ∷ es) = trees_after (known ++ frame_of known e.frame ∷ []) es

abbrev pub trees_of : List Entry → List FrameTree
trees_of es = trees_after [] es

-- ---- how many entries a frame is in terms of: all that it names are below this

abbrev pub next_height : Next → ℕ
next_height Stop = 0
next_height (Again n) = n + 1

abbrev pub bytes_height : List NumberedByte → ℕ
bytes_height [] = 0
bytes_height (b ∷ bs) = max (next_height b.refused) (bytes_height bs)

abbrev pub row_height : Row → ℕ
row_height row = max (bytes_height row.bytes.items) (next_height row.last)

abbrev pub frame_height : NumberedFrame → ℕ
frame_height (Write w) = max (row_height w.acked) (next_height w.refused)
frame_height (Read r) = max (next_height r.after) (next_height r.refused)

-- ---- what holds of them

-- these are the beginnings of one byte, of two, and so on, of two who both send these
abbrev pub AreBeginnings : List Step → List Beginning → Type 0
AreBeginnings ss beginnings =
    (length beginnings ≡ length ss) ×
    ((n : ℕ) (d : Beginning) → n < length beginnings → IsBeginning (take (suc n) ss) (take (suc n) ss) (get_or beginnings n d))

-- the outcome for the last n of the bytes, and what follows them, against themselves is the entry n
abbrev pub AreEndings : List FrameTree → Row → List Outcomes → Type 0
AreEndings known row endings =
    (n k : ℕ) (d : Outcomes) → n < length endings → n + k ≡ length row.bytes.items →
    AreOutcomes (PayloadText (rest_after k known row)) (PayloadText (rest_after k known row)) (get_or endings n d)

-- all endings of the row are there
pub record IsEnded (known : List FrameTree) (row : Row) : Type 0 where
  pub all : length row.endings.items ≡ length row.bytes.items + 1
  pub each : AreEndings known row row.endings.items

-- from this place on the two are the same
pub record IsSameFrom (place : ℕ) (first second : Row) : Type 0 where
  pub bytes : drop place first.bytes.items ≡ drop place second.bytes.items
  pub last : first.last ≡ second.last

-- what follows has a number
abbrev pub IsInside : List Entry → Next → Type 0
IsInside es next = next_height next ≤ length es

-- the choices in the bits of each byte are those that stand with it
abbrev pub AllTold : List NumberedByte → Type 0
AllTold [] = Unit {0}
AllTold (b ∷ bs) = AreChoices (pattern_bits b.bits) b.choices × AllTold bs

-- and those in the bits of the header too
abbrev pub IsTold : NumberedFrame → Type 0
IsTold (Write w) = AreChoices (write_header w.address) w.header × AllTold w.acked.bytes.items
IsTold (Read r) = AreChoices (read_header r.address) r.header

pub record IsRow (es : List Entry) (row : Row) : Type 0 where
  pub inside : row_height row ≤ length es
  pub told : AllTold row.bytes.items
  pub begun : AreBeginnings (steps_of (trees_of es) row) row.beginnings.items

abbrev pub IsBegun : List Entry → NumberedFrame → Type 0
IsBegun es (Write w) = AreBeginnings (steps_of (trees_of es) w.acked) w.acked.beginnings.items × IsEnded (trees_of es) w.acked
IsBegun es (Read r) = Unit {0}

-- the frame is in terms of these entries, and no text of it has 2 to the power 32 slots
pub record IsFrame (es : List Entry) (frame : NumberedFrame) : Type 0 where
  pub inside : frame_height frame ≤ length es
  pub told : IsTold frame
  pub begun : IsBegun es frame
  pub slots : frame_slots (frame_of (trees_of es) frame) < 2 ^ 32

-- this is entry k: in terms of those before it, with its tree, and with its outcome against itself
pub record IsEntry (es : List Entry) (k : ℕ) (e : Entry) : Type 0 where
  pub before : frame_height e.frame ≤ k
  pub frame : IsFrame es e.frame
  pub named : Names (trees_of es) k (frame_of (trees_of es) e.frame)
  pub alone : AreOutcomes (FrameText (frame_of (trees_of es) e.frame)) (FrameText (frame_of (trees_of es) e.frame)) e.alone

abbrev pub AreFrames : List Entry → Type 0
AreFrames es = (k : ℕ) (e : Entry) → slice_get es k ≡ Some e → IsEntry es k e

-- the new entries are the old ones and more, so whatever has a number keeps it
abbrev pub Grows : List Entry → List Entry → Type 0
Grows old new = (more : List Entry) × (new ≡ old ++ more)
