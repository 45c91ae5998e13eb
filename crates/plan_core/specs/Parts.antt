-- What the parts of a plan stand for, one by one.
use Rattle.std.specs.Prelude.{ℕ, List, map}
use Rattle.std.specs.Vec.{vec_items}
use Rattle.std.specs.declared.vec.Vec.{Vec}
use Rattle.message_tree.specs.declared.tree.Frame.{Frame}
use Rattle.message_tree.specs.Trees.{FrameTree, frame_tree}
use Rattle.plan_core.specs.declared.names.Name.{Name}
use Rattle.plan_core.specs.NameBytes.{name_bytes}
use Rattle.plan_core.specs.Contents.{Contents}

abbrev pub message_of : Name × Frame → List ℕ × FrameTree
message_of entry = (name_bytes entry.0, frame_tree entry.1)

abbrev pub controller_of : {Z : Type 0} → Name × Vec ℕ Z → List ℕ × List ℕ
controller_of entry = (name_bytes entry.0, vec_items entry.1)

abbrev pub interrupt_of : Name × ℕ → List ℕ × ℕ
interrupt_of entry = (name_bytes entry.0, entry.1)

-- what a plan of these entries holds
unfoldable pub contents_of : {Z : Type 0} → List (Name × Frame) → List (Name × Vec ℕ Z) → List (Name × ℕ) →
    List (ℕ × ℕ) → Contents
contents_of messages controllers interrupts nevers = record {
  messages = map message_of messages;
  controllers = map controller_of controllers;
  interrupts = map interrupt_of interrupts;
  nevers = nevers;
}
