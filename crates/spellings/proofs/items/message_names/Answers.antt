use Rattle.std.proofs.Common.{ap, sym, ◌∙◌, Some, ◌≡◌, arith, get_or, slice_get}
use Rattle.std.specs.Map.{keys_of}
use Rattle.plan_core.specs.PlanContents.{plan_contents}
use Rattle.spellings.proofs.Adding.{names_more}
use Rattle.spellings.proofs.items.message_names.Goals as goal

pub loop-message-preserved : goal.loop-message-preserved
loop-message-preserved c =
    let messages = (plan_contents c.args.plan.now).messages in
    let i = c.loop-message.message-index in
    let named : slice_get (keys_of messages) (get_or c.args.numbers.now i 0) ≡ Some c.as_str.result.now = c.message_name.ensures ∙ ap Some (sym c.as_str.ensures) in
    names_more messages c.args.numbers.now i _ _ _ _ (omega (arith, c.loop-message-test.true)) named c.loop-message.invariant c.in_ok-word.ensures
