-- The wire on which two participants are both live, as far as they may choose it: the first in dictionary order.
-- Only private contracts and proofs use this.
use Rattle.std.specs.Prelude.{ℕ, suc, zero, Bool, true, false, List, [], ◌∷◌, ◌++◌, replicate}
use Rattle.message_tree.specs.declared.bits.Bit.{Bit}
use Rattle.message_tree.specs.declared.bits.Bit.TheVariants.{One}
use Rattle.message_tree.specs.declared.items.Item.{Item}
use Rattle.message_tree.specs.declared.items.Item.TheVariants.{Sent, Heard}

-- the bit that both may send, 0 where they may send either
abbrev pub agreed_bit : Bit → Bit → Bool
agreed_bit One c = true
agreed_bit b One = true
agreed_bit _ _ = false

abbrev pub agreed : List Bit → List Bit → List Item
agreed (b ∷ bs) (c ∷ cs) = Sent (agreed_bit b c) ∷ agreed bs cs
agreed _ _ = []

-- the first wire on which both read more + 1 bytes
abbrev pub read_wire : ℕ → List Item
read_wire zero = replicate 8 (Heard false) ++ Sent true ∷ []
read_wire (suc more) = replicate 8 (Heard false) ++ Sent false ∷ read_wire more
