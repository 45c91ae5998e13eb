-- Whether a message has a path, as it is found: from node to node; and the items of the brief before. Only private contracts
-- and proofs use this.
use Rattle.std.specs.Prelude.{ℕ, Bool, true, false, ◌&&◌, nat_le, List, [], ◌∷◌, Option, Some, None, ◌≡◌, Ok, if◌then◌else◌}
use Rattle.brief_text.specs.Briefs.{text_read}
use Rattle.brief_text.specs.Drafts.{Draft, no_items}
use Rattle.message_tree.specs.declared.bits.Address.{Address}
use Rattle.message_tree.specs.declared.bits.Bit.{Bit}
use Rattle.message_tree.specs.declared.bits.Bit.TheVariants.{Zero, One}
use Rattle.message_tree.specs.declared.bits.Pattern.{Pattern}
use Rattle.message_tree.specs.declared.counts.Count.{Count}
use Rattle.message_tree.specs.Counts.{least_of, greatest_of}
use Rattle.message_tree.specs.Patterns.{address_bits, pattern_bits}
use Rattle.message_tree.specs.Trees.{FrameTree, write, read, PayloadTree, byte, last, TailTree, stop, again}
use Rattle.lessons.specs.declared.paths.Sent.{Sent}
use Rattle.lessons.specs.declared.paths.Sent.TheVariants.{Write, Register, Data, Read}
use Rattle.lessons.specs.declared.paths.Step.{Step}
use Rattle.lessons.specs.Plans.{seven, eight}

abbrev pub never_split : List Bit → List Bit → Bool
never_split (Zero ∷ xs) (One ∷ ys) = false
never_split (One ∷ xs) (Zero ∷ ys) = false
never_split (x ∷ xs) (y ∷ ys) = never_split xs ys
never_split _ _ = true

abbrev pub writes : Address → Sent → Bool
writes address (Write to) = never_split (address_bits address) (seven to)
writes address _ = false

abbrev pub reads : Address → Sent → Bool
reads address (Read from count) = never_split (address_bits address) (seven from)
reads address _ = false

abbrev pub sends : Pattern → Sent → Bool
sends bits (Register value) = never_split (pattern_bits bits) (eight value)
sends bits (Data value) = never_split (pattern_bits bits) (eight value)
sends bits _ = false

abbrev pub has_count : Count → Sent → Bool
has_count range (Read from (Some count)) = nat_le (least_of range) count && nat_le count (greatest_of range)
has_count range _ = false

abbrev mutual
  pub frame_takes : FrameTree → List Step → Bool
  frame_takes (write address acked refused) (step ∷ steps) =
      writes address step.sent && (if step.refused then tail_takes refused steps else payload_takes acked steps)
  frame_takes (read address count after refused) (step ∷ steps) =
      reads address step.sent &&
      (if step.refused then tail_takes refused steps else (has_count count step.sent && tail_takes after steps))
  frame_takes _ [] = false

  pub payload_takes : PayloadTree → List Step → Bool
  payload_takes (byte bits acked refused) (step ∷ steps) =
      sends bits step.sent && (if step.refused then tail_takes refused steps else payload_takes acked steps)
  payload_takes (byte bits acked refused) [] = false
  payload_takes (last tail) steps = tail_takes tail steps

  pub tail_takes : TailTree → List Step → Bool
  tail_takes stop [] = true
  tail_takes stop (step ∷ steps) = false
  tail_takes (again frame) steps = frame_takes frame steps

-- the items of these texts make one draft another
abbrev pub ReadAfter : Draft → List (List ℕ) → Draft → Type 0
ReadAfter draft [] after = after ≡ draft
ReadAfter draft (text ∷ texts) after = (more : Draft) × (text_read draft text ≡ Ok more) × ReadAfter more texts after

-- these items are what was read before
abbrev pub ReadsBefore : Option (List (List ℕ)) → Draft → Type 0
ReadsBefore None draft = draft ≡ no_items
ReadsBefore (Some texts) draft = ReadAfter no_items texts draft
