-- How items and kinds are written: a character for each item of a wire, a word for each kind. The words are ours.
use Rattle.std.specs.Prelude.{ℕ, true, false, List, map, codes}
use Rattle.message_tree.specs.Codes.{code}
use Rattle.message_tree.specs.declared.items.Item.{Item}
use Rattle.message_tree.specs.declared.items.Item.TheVariants as item
use Rattle.message_tree.specs.declared.items.Kind.{Kind}
use Rattle.message_tree.specs.declared.items.Kind.TheVariants as kind

-- `0` and `1` are sent, `l` and `h` heard; `r` is a repeated START, `s` a STOP, `c` a claim
abbrev pub symbol_of : Item → ℕ
symbol_of (item.Sent false) = code "0"
symbol_of (item.Sent true) = code "1"
symbol_of (item.Heard false) = code "l"
symbol_of (item.Heard true) = code "h"
symbol_of item.Again = code "r"
symbol_of item.Stop = code "s"
symbol_of item.Claim = code "c"

-- a wire, slot by slot
abbrev pub wire_text : List Item → List ℕ
wire_text wire = map symbol_of wire

abbrev pub kind_word : Kind → List ℕ
kind_word kind.Sent = codes "data"
kind_word kind.Heard = codes "answer"
kind_word kind.Again = codes "restart"
kind_word kind.Stop = codes "stop"
kind_word kind.Claim = codes "claim"
