use Rattle.std.proofs.Common.{true≢false, sym, ap, ◌∙◌, ◌++◌}
use Rattle.plan_core.proofs.labels.is_interrupt_label.Goals as goal

pub returns-in-None : goal.returns-in-None
returns-in-None c = ((λ yes. absurd (true≢false (sym yes))), (λ same. absurd (c.in-None.ensures c.args.name.now (ap (λ s. s ++ c.args.name.now) c.as_bytes.ensures.value ∙ same))))
