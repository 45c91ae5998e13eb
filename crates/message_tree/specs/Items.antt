-- What one participant does with one slot of the bus. Sent is a bit that the participant drives: of a header, of a data
-- byte, or its own acknowledge of a byte that it reads (UM10204, 3.1.5 and 3.1.6). Heard is a bit that a target drives:
-- an acknowledge, or a bit that is read. Again is a repeated START and Stop a STOP (3.1.4 and 3.1.10). Claim is our
-- profile's: an interrupt waits for the answer to its header.
use Rattle.std.specs.Prelude.{◌≡◌, ◌≢◌, ◌⊎◌}
use Rattle.message_tree.specs.declared.items.Item.{Item}
use Rattle.message_tree.specs.declared.items.Item.TheVariants as item
use Rattle.message_tree.specs.declared.items.Kind.{Kind}
use Rattle.message_tree.specs.declared.items.Kind.TheVariants as kind

-- an item's name without its bit
abbrev pub kind_of : Item → Kind
kind_of (item.Sent b) = kind.Sent
kind_of (item.Heard b) = kind.Heard
kind_of item.Again = kind.Again
kind_of item.Stop = kind.Stop
kind_of item.Claim = kind.Claim

-- two kinds that must not meet in one slot: different ones (UM10204, 3.1.8), and two claims
abbrev pub KindsClash : Kind → Kind → Type 0
KindsClash j k = (j ≢ k) ⊎ ((j ≡ kind.Claim) × (k ≡ kind.Claim))

abbrev pub Clash : Item → Item → Type 0
Clash x y = KindsClash (kind_of x) (kind_of y)
