use Rattle.std.proofs.Common.{sym, ◌∙◌}
use Rattle.plan_core.specs.PlanContents.{plan_contents}
use Rattle.spellings.specs.Canonical.{frame_has_range}
use Rattle.spellings.proofs.Adding.{value_entry, any_here, any_later}
use Rattle.spellings.proofs.print.has_range.Goals as goal

pub returns-then-frame_has_range : goal.returns-then-frame_has_range
returns-then-frame_has_range c =
    let messages = (plan_contents c.args.plan.now).messages in
    let entry = value_entry messages c.loop-k.k _ c.message.ensures in
    any_here messages c.loop-k.k _ entry.1 (λ message. frame_has_range message.1) _ c.loop-k.invariant (sym c.frame_has_range.ensures ∙ c.if-frame_has_range.true)

pub loop-k-preserved : goal.loop-k-preserved
loop-k-preserved c =
    let messages = (plan_contents c.args.plan.now).messages in
    let entry = value_entry messages c.loop-k.k _ c.message.ensures in
    any_later messages c.loop-k.k _ entry.1 (λ message. frame_has_range message.1) _ c.loop-k.invariant (sym c.frame_has_range.ensures ∙ c.if-frame_has_range.false)
