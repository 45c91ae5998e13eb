use Rattle.std.proofs.Common.{[], ◌∷◌, ap, ◌∙◌}
use Rattle.std.specs.List.{flat_map}
use Rattle.std.proofs.lemmas.List.{take_all}
use Rattle.std.proofs.lemmas.List.Concat.{flat_map_single}
use Rattle.plan_core.specs.NameBytes.{name_bytes}
use Rattle.plan_core.specs.declared.names.Name.{Name}
use Rattle.brief_text.specs.Drafts.{device_name}
use Rattle.brief_text.proofs.PushLemmas.{one_further}
use Rattle.brief_text.proofs.boards.Board.device_names.Goals as goal

pub loop-device-preserved : goal.loop-device-preserved
loop-device-preserved c =
    one_further (λ (it : Name). device_name (name_bytes c.args.name.now) (name_bytes it) ∷ []) c.args.devices.now [] _ _ c.loop-device.device-index c.device-item.result c.loop-device-test.true c.device-item.is c.loop-device.invariant c.in_ok-push_device_name.ensures

pub returns : goal.returns
returns c =
    let f = λ (it : Name). device_name (name_bytes c.args.name.now) (name_bytes it) in
    c.loop-device.invariant
    ∙ ap (flat_map (λ it. f it ∷ [])) (take_all c.loop-device.device-index c.args.devices.now c.loop-device-test.false)
    ∙ flat_map_single f c.args.devices.now
