-- The canonical spelling of a plan: its version, then its messages, controllers, interrupts and `never` items, each on a
-- line of its own with one space between two words.

use Rattle.std.specs.Prelude.{◌≡◌, ℕ, Bool, false, ◌||◌, nat_lt, List, [], ◌∷◌, ◌++◌, length, map, codes, decimal, ◌==◌}
use Rattle.std.specs.Prelude.{if◌then◌else◌}
use Rattle.std.specs.List.{list_any, flat_map}
use Rattle.message_tree.specs.Codes.{code}
use Rattle.message_tree.specs.declared.counts.Count.{Count}
use Rattle.message_tree.specs.Counts.{least_of, greatest_of}
use Rattle.plan_core.specs.Contents.{Contents}
use Rattle.plan_core.specs.Labels.{name_at}
use Rattle.plan_text.specs.Symbols.{address_word, interrupt_word, pattern_word}
use Rattle.message_tree.specs.Trees.{FrameTree, write, read, PayloadTree, byte, last, TailTree, stop, again}

-- the word of a count: one number, or two ends around '..'
abbrev pub count_word : Count → List ℕ
count_word c =
    if least_of c == greatest_of c then decimal (least_of c)
    else (decimal (least_of c) ++ (codes ".." ++ decimal (greatest_of c)))

-- the words of a message
abbrev mutual
  pub frame_words : FrameTree → List (List ℕ)
  frame_words (write address acked refused) =
      codes "write" ∷ (address_word address ∷ (payload_words acked ++ (codes "else" ∷ tail_words refused)))
  frame_words (read address count after refused) =
      codes "read" ∷ (address_word address ∷ (count_word count ∷
      (tail_words after ++ (codes "else" ∷ tail_words refused))))

  pub payload_words : PayloadTree → List (List ℕ)
  payload_words (byte bits acked refused) =
      pattern_word bits ∷ (payload_words acked ++ (codes "else" ∷ tail_words refused))
  payload_words (last tail) = tail_words tail

  pub tail_words : TailTree → List (List ℕ)
  tail_words stop = codes "stop" ∷ []
  tail_words (again frame) = codes "again" ∷ frame_words frame

-- words, each after one space
abbrev pub spaced : List (List ℕ) → List ℕ
spaced [] = []
spaced (word ∷ words) = (code " " ∷ word) ++ spaced words

-- a text grows by these words
abbrev pub Adds : List ℕ → List ℕ → List (List ℕ) → Type 0
Adds old new words = new ≡ old ++ spaced words

-- whether a read has two different ends, which the second version alone can say
abbrev mutual
  pub frame_has_range : FrameTree → Bool
  frame_has_range (write address acked refused) = payload_has_range acked || tail_has_range refused
  frame_has_range (read address count after refused) =
      nat_lt (least_of count) (greatest_of count) || tail_has_range after || tail_has_range refused

  pub payload_has_range : PayloadTree → Bool
  payload_has_range (byte bits acked refused) = payload_has_range acked || tail_has_range refused
  payload_has_range (last tail) = tail_has_range tail

  pub tail_has_range : TailTree → Bool
  tail_has_range stop = false
  tail_has_range (again frame) = frame_has_range frame

-- whether only the second version can say this plan
abbrev pub needs_second : Contents → Bool
needs_second plan = nat_lt 0 (length plan.nevers) || list_any (λ message. frame_has_range message.1) plan.messages

abbrev pub version_line : Contents → List ℕ
version_line plan = if needs_second plan then codes "plan 2\n" else codes "plan 1\n"

-- an item's keyword and its words, and `;`
abbrev pub item_line : List ℕ → List (List ℕ) → List ℕ
item_line first words = first ++ (spaced words ++ codes " ;\n")

abbrev pub message_line : List ℕ × FrameTree → List ℕ
message_line message = item_line (codes "message") (message.0 ∷ frame_words message.1)

abbrev pub controller_line : Contents → List ℕ × List ℕ → List ℕ
controller_line plan controller =
    item_line (codes "controller") (controller.0 ∷ map (name_at plan.messages) controller.1)

abbrev pub interrupt_line : List ℕ × ℕ → List ℕ
interrupt_line interrupt = item_line (codes "interrupt") (interrupt.0 ∷ (interrupt_word interrupt.1 ∷ []))

abbrev pub never_line : Contents → ℕ × ℕ → List ℕ
never_line plan never =
    item_line (codes "never") (name_at plan.controllers never.0 ∷ (name_at plan.controllers never.1 ∷ []))

unfoldable pub plan_text : Contents → List ℕ
plan_text plan =
    version_line plan
    ++ (flat_map message_line plan.messages
    ++ (flat_map (controller_line plan) plan.controllers
    ++ (flat_map interrupt_line plan.interrupts
    ++ flat_map (never_line plan) plan.nevers)))
