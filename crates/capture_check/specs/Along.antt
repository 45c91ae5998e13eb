-- Marks followed through the bits of a header. Only private contracts and proofs use this.
use Rattle.std.specs.Prelude.{Bool, true, false, not, List, [], ◌∷◌, Option, Some, None, if◌then◌else◌}
use Rattle.message_tree.specs.declared.bits.Bit.{Bit}
use Rattle.message_tree.specs.declared.bits.Bit.TheVariants.{Zero, One, Either}
use Rattle.message_tree.specs.Texts.{Language}
use Rattle.capture_check.specs.declared.listening.Mark.{Mark}
use Rattle.capture_check.specs.declared.listening.Mark.TheVariants.{Level}
use Rattle.capture_check.specs.Marks.{Fits}

-- this level may be sent where the pattern has this bit
abbrev pub may_be : Bit → Bool → Bool
may_be Zero level = not level
may_be One level = level
may_be Either level = true

-- the marks after bits that are sent
abbrev pub after_bits : List Bit → List Mark → Option (List Mark)
after_bits [] marks = Some marks
after_bits (b ∷ bs) (Level level ∷ marks) = if may_be b level then after_bits bs marks else None
after_bits (b ∷ bs) _ = None

-- a text of P has the marks that are left
abbrev pub FitsAfter : Option (List Mark) → Language → Type 0
FitsAfter (Some marks) P = Fits P marks
FitsAfter None P = ⊥
