-- A brief as a tree: what its text says, before names are looked up and repetitions are written out.
use Rattle.std.specs.Prelude.{ℕ, Bool, List, Option}
use Rattle.message_tree.specs.declared.bits.Address.{Address}
use Rattle.message_tree.specs.declared.bits.Pattern.{Pattern}
use Rattle.message_tree.specs.declared.counts.Count.{Count}
use Rattle.brief_text.specs.declared.syntax.Lengths.{Lengths}

-- a value that is spelled out, or the name of one
pub data Said (A : Type 0) : Type 0 where
  spelled : (value : A) → Said A
  named : (name : List ℕ) → Said A

-- what value a byte has: one from LO to HI, or any but these
pub data Choice : Type 0 where
  span : (least greatest : ℕ) → Choice
  all_but : (least greatest : ℕ) → Choice

-- a byte that follows from others, as the first byte of a frame to this address, the packet error code, or the checksum; or a choice
pub data Made : Type 0 where
  header : (reads : Bool) (to : Said Address) → Made
  packet_code : Made
  checksum : Made
  chosen : (choice : Choice) → Made

-- how often a byte stands one after another: so often, or from LO to HI times, as the message says
pub data Times : Type 0 where
  times : (n : ℕ) → Times
  ranged : Times

mutual
  -- a frame, what follows it where its header is not acknowledged, and what follows else
  pub data BriefFrame : Type 0 where
    write_to : (to : Said Address) (refused : BriefTail) (acked : BriefBytes) → BriefFrame
    read_from : (to : Said Address) (count : Count) (refused after : BriefTail) → BriefFrame

  -- a data byte, what follows it where it is not acknowledged, and what follows else, and the same of one that follows from
  -- others or is a choice; or what follows the last of them
  pub data BriefBytes : Type 0 where
    data_byte : (bits : Said Pattern) (often : Times) (refused : BriefTail) (acked : BriefBytes) → BriefBytes
    made_byte : (made : Made) (refused : BriefTail) (acked : BriefBytes) → BriefBytes
    no_more : (tail : BriefTail) → BriefBytes

  -- a STOP, or further frames
  pub data BriefTail : Type 0 where
    stop_here : BriefTail
    go_on : (frame : BriefFrame) → BriefTail

-- what a `never` names: a controller, or a message or a family of one by its label, as `bmc/set`
pub record Side : Type 0 where
  pub controller : List ℕ
  pub label : Option (List ℕ)

-- an item; a message of which a byte stands LO to HI times, or is a choice, is a family
pub data BriefItem : Type 0 where
  device : (name : List ℕ) (address : Address) → BriefItem
  byte : (name : List ℕ) (bits : Pattern) → BriefItem
  device_group : (name : List ℕ) (devices : List (List ℕ)) → BriefItem
  message : (name : List ℕ) (range : Option Lengths) (frame : BriefFrame) → BriefItem
  controller : (name : List ℕ) (messages : List (List ℕ)) → BriefItem
  extend : (name : List ℕ) (messages : List (List ℕ)) → BriefItem
  interrupt : (name : List ℕ) (to : Said Address) → BriefItem
  never_both : (first second : Side) → BriefItem
