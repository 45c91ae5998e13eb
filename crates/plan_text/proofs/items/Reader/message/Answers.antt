use Rattle.std.proofs.Common.{sym, ◌∙◌, arith}
use Rattle.message_tree.specs.Trees.{frame_tree}
use Rattle.plan_core.proofs.BuildingLemmas.{message_fits}
use Rattle.plan_core.specs.NameBytes.{name_bytes}
use Rattle.plan_core.specs.declared.limits.TheConstants.{MOST_BYTES}
use Rattle.plan_text.specs.Places.{so_far, place}
use Rattle.plan_text.proofs.TakesLemmas.{frame_takes}
use Rattle.plan_text.proofs.items.Reader.message.Goals as goal

pub add_message-requires : goal.add_message-requires
add_message-requires c =
    let frame = frame_takes MOST_BYTES (record (place c.name.new.self) { nodes = 0 }) (frame_tree c.in_ok-frame.frame, place c.message_frame.new.self) c.in_ok-frame.ensures in
    message_fits (so_far c.args.self.now) (name_bytes c.in_ok-named.named.name) (frame_tree c.in_ok-frame.frame) (sym c.message_name_refusal.ensures ∙ c.in_ok-allowed.ensures.allowed) (omega (arith, frame.path)) (omega (arith, frame.count, c.message_frame.new.self.nodes_fit))
