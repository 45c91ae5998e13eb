-- The text of a brief that is written for a plan: addresses and data bytes in hex where their bits allow it, runs of
-- equal bytes with their number, and no `else stop`.
use Rattle.std.specs.Prelude.{ℕ, ◌+◌, Bool, true, false, ◌&&◌, ◌==◌, nat_lt, List, [], ◌∷◌, ◌++◌, map, take, drop, Option}
use Rattle.std.specs.Prelude.{Some, None, codes, decimal, if◌then◌else◌}
use Rattle.std.specs.List.{list_all, flat_map}
use Rattle.message_tree.specs.declared.bits.Address.{Address}
use Rattle.message_tree.specs.declared.bits.Bit.{Bit}
use Rattle.message_tree.specs.declared.bits.Bit.TheVariants.{Either}
use Rattle.message_tree.specs.declared.bits.Pattern.{Pattern}
use Rattle.message_tree.specs.Codes.{code}
use Rattle.message_tree.specs.Patterns.{address_bits, pattern_bits}
use Rattle.message_tree.specs.Trees.{FrameTree, write, read, PayloadTree, last, TailTree, stop, again}
use Rattle.message_tree.specs.Trees as trees
use Rattle.plan_core.specs.Contents.{Contents}
use Rattle.plan_text.specs.Symbols.{bit_symbol}
use Rattle.spellings.specs.Canonical.{count_word, item_line, controller_line, never_line}
use Rattle.plan_text.specs.Values.{address_by}
use Rattle.brief_text.specs.Words.{known_number}
use Rattle.spellings.specs.Writing.{Run, ended_by, with_byte}

-- ---- addresses and data bytes

-- `0` to `9` and `A` to `F`
abbrev pub hex_symbol : ℕ → ℕ
hex_symbol n = if nat_lt n 10 then code "0" + n else 55 + n

abbrev pub hex_of : Option ℕ → Option ℕ
hex_of (Some n) = Some (hex_symbol n)
hex_of None = None

abbrev pub is_open : Bit → Bool
is_open Either = true
is_open bit = false

-- the digit of these bits, where all of them are known or all are open
abbrev pub digit_symbol : List Bit → Option ℕ
digit_symbol bits = if list_all is_open bits then Some (code "X") else hex_of (known_number 0 bits)

-- in base 2, unless both digits are there
abbrev pub target_of : Option ℕ → Option ℕ → List Bit → List ℕ
target_of (Some high) (Some low) bits = codes "0x" ++ high ∷ low ∷ []
target_of high low bits = codes "0b" ++ map bit_symbol bits

-- the word of an address
abbrev pub target_word : Address → List ℕ
target_word a =
    target_of (digit_symbol (take 3 (address_bits a))) (digit_symbol (drop 3 (address_bits a))) (address_bits a)

abbrev pub data_of : Option ℕ → Option ℕ → List Bit → List ℕ
data_of (Some high) (Some low) bits =
    if high == code "X" && low == code "X" then codes "any" else (codes "0x" ++ high ∷ low ∷ [])
data_of high low bits = codes "0b" ++ map bit_symbol bits

-- the word of a data byte
abbrev pub data_word : Pattern → List ℕ
data_word p = data_of (digit_symbol (take 4 (pattern_bits p))) (digit_symbol (drop 4 (pattern_bits p))) (pattern_bits p)

-- with its number, where it stands twice or more
abbrev pub run_word : Run → List ℕ
run_word run = data_word run.0 ++ (if nat_lt 1 run.1 then codes "*" ++ decimal run.1 else [])

-- ---- the words of a message

abbrev pub run_words : Option Run → List (List ℕ)
run_words None = []
run_words (Some run) = run_word run ∷ []

abbrev mutual
  pub frame_words : FrameTree → List (List ℕ)
  frame_words (write address acked refused) =
      codes "write" ∷ (target_word address ∷ (refused_words refused ++ bytes_words acked None))
  frame_words (read address count after refused) =
      codes "read" ∷ (target_word address ∷ (count_word count ∷ (refused_words refused ++ next_words after)))

  -- what follows this run, of which nothing is written yet
  pub bytes_words : PayloadTree → Option Run → List (List ℕ)
  bytes_words (trees.byte bits acked stop) run =
      run_words (ended_by run bits) ++ bytes_words acked (Some (with_byte run bits))
  bytes_words (trees.byte bits acked (again frame)) run =
      run_words run ++ (data_word bits ∷ (refused_words (again frame) ++ bytes_words acked None))
  bytes_words (last tail) run = run_words run ++ next_words tail

  pub refused_words : TailTree → List (List ℕ)
  refused_words stop = []
  refused_words (again frame) = codes "else" ∷ (codes "(" ∷ (frame_words frame ++ (codes ")" ∷ [])))

  pub next_words : TailTree → List (List ℕ)
  next_words stop = []
  next_words (again frame) = frame_words frame

-- ---- lines

abbrev pub message_line : List ℕ × FrameTree → List ℕ
message_line m = item_line (codes "message") (m.0 ∷ frame_words m.1)

abbrev pub interrupt_line : List ℕ × ℕ → List ℕ
interrupt_line i = item_line (codes "interrupt") (i.0 ∷ (target_word (address_by 127 i.1) ∷ []))

unfoldable pub brief_spelled : Contents → List ℕ
brief_spelled plan =
    codes "brief 1\n"
    ++ (flat_map message_line plan.messages
    ++ (flat_map (controller_line plan) plan.controllers
    ++ (flat_map interrupt_line plan.interrupts
    ++ flat_map (never_line plan) plan.nevers)))
