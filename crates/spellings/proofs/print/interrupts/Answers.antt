use Rattle.std.proofs.Common.{ap, sym, ◌∙◌, Some, ◌≡◌, slice_get}
use Rattle.std.specs.Map.{keys_of}
use Rattle.plan_core.specs.PlanContents.{plan_contents}
use Rattle.spellings.specs.Canonical.{interrupt_line}
use Rattle.spellings.proofs.Adding.{entry_at, line_more}
use Rattle.spellings.proofs.print.interrupts.Goals as goal

pub loop-k-preserved : goal.loop-k-preserved
loop-k-preserved c =
    let interrupts = (plan_contents c.args.plan.now).interrupts in
    let named : slice_get (keys_of interrupts) c.loop-k.k ≡ Some c.as_str-name.result.now = c.interrupt_name.ensures ∙ ap Some (sym c.as_str-name.ensures) in
    line_more interrupts c.loop-k.k _ (entry_at interrupts c.loop-k.k _ _ named c.interrupt_address.ensures) interrupt_line _ _ _ c.loop-k.invariant c.in_ok-interrupt.ensures
