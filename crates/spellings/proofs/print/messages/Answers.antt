use Rattle.std.proofs.Common.{ap, sym, ◌∙◌, Some, ◌≡◌, slice_get}
use Rattle.std.specs.Map.{keys_of}
use Rattle.plan_core.specs.PlanContents.{plan_contents}
use Rattle.spellings.specs.Canonical.{message_line}
use Rattle.spellings.proofs.Adding.{entry_at, line_more}
use Rattle.spellings.proofs.print.messages.Goals as goal

pub loop-k-preserved : goal.loop-k-preserved
loop-k-preserved c =
    let messages = (plan_contents c.args.plan.now).messages in
    let named : slice_get (keys_of messages) c.loop-k.k ≡ Some c.as_str.result.now = c.message_name.ensures ∙ ap Some (sym c.as_str.ensures) in
    line_more messages c.loop-k.k _ (entry_at messages c.loop-k.k _ _ named c.message.ensures) message_line _ _ _ c.loop-k.invariant c.in_ok-message.ensures
