use Rattle.std.proofs.Common.{[], ap, sym, ◌∙◌}
use Rattle.std.specs.List.{flat_map}
use Rattle.std.proofs.lemmas.List.{take_all}
use Rattle.std.proofs.lemmas.List.Folds.{flat_map-map}
use Rattle.plan_core.specs.NameBytes.{name_bytes}
use Rattle.plan_core.specs.declared.names.Name.{Name}
use Rattle.brief_text.specs.Drafts.{device_meant}
use Rattle.brief_text.specs.Standing.{draft, brief_frame}
use Rattle.brief_text.proofs.PushLemmas.{one_further}
use Rattle.brief_text.proofs.boards.Board.grouped_meant.Goals as goal

pub loop-device-preserved : goal.loop-device-preserved
loop-device-preserved c =
    let one = device_meant (draft c.args.self.now) (name_bytes c.args.name.now) c.args.range (brief_frame c.args.frames.now) (name_bytes c.args.group.now) in
    one_further (λ (it : Name). one (name_bytes it)) c.devices_of-device-items.result.now [] _ _ c.loop-device.device-index c.device-item.result c.loop-device-test.true c.device-item.is c.loop-device.invariant c.in_ok-push_device_meant.ensures

pub returns : goal.returns
returns c =
    let one = device_meant (draft c.args.self.now) (name_bytes c.args.name.now) c.args.range (brief_frame c.args.frames.now) (name_bytes c.args.group.now) in
    c.loop-device.invariant
    ∙ ap (flat_map (λ (it : Name). one (name_bytes it))) (take_all c.loop-device.device-index c.devices_of-device-items.result.now c.loop-device-test.false)
    ∙ sym (flat_map-map one name_bytes c.devices_of-device-items.result.now)
    ∙ ap (flat_map one) c.devices_of-device-items.ensures
