use Rattle.std.proofs.Common.{ap, sym, ◌∙◌, Some, ◌≡◌, slice_get}
use Rattle.std.specs.Map.{keys_of}
use Rattle.plan_core.specs.PlanContents.{plan_contents}
use Rattle.spellings.specs.Canonical.{controller_line}
use Rattle.spellings.proofs.Adding.{entry_at, line_more}
use Rattle.spellings.proofs.items.controllers.Goals as goal

pub loop-k-preserved : goal.loop-k-preserved
loop-k-preserved c =
    let controllers = (plan_contents c.args.plan.now).controllers in
    let named : slice_get (keys_of controllers) c.loop-k.k ≡ Some c.as_str-name.result.now = c.controller_name.ensures ∙ ap Some (sym c.as_str-name.ensures) in
    line_more controllers c.loop-k.k _ (entry_at controllers c.loop-k.k _ _ named c.controller_messages.ensures.value) (controller_line (plan_contents c.args.plan.now)) _ _ _ c.loop-k.invariant c.in_ok-controller.ensures
