-- A message that was made, as the plan has it. Only private contracts and proofs use this.
use Rattle.std.specs.Prelude.{ℕ, Bool, true, false, List, Option, Some}
use Rattle.message_tree.specs.Trees.{FrameTree, frame_tree}
use Rattle.plan_core.specs.NameBytes.{name_bytes}
use Rattle.plan_core.specs.declared.builder.BuildError.{BuildError}
use Rattle.plan_core.specs.declared.builder.BuildError.TheVariants.{Twice}
use Rattle.brief_text.specs.declared.meanings.Message.{Message}

abbrev pub message_of : Message → List ℕ × FrameTree
message_of message = (name_bytes message.name, frame_tree message.frame)

abbrev pub is_twice : Option BuildError → Bool
is_twice (Some Twice) = true
is_twice refusal = false
