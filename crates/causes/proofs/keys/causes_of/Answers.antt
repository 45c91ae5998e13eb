use Rattle.std.proofs.Common.{ℕ, ◌∙◌}
use Rattle.certificate.specs.declared.values.Fault.{Fault}
use Rattle.plan_core.specs.PlanContents.{plan_contents}
use Rattle.verdicts.specs.Faults.{fault_list}
use Rattle.causes.proofs.PairNumbers.{pair_listed, causes_more}
use Rattle.causes.proofs.keys.causes_of.Goals as goal

pub cause_of-cause-requires-clause-within : goal.cause_of-cause-requires-clause-within
cause_of-cause-requires-clause-within c =
    pair_listed (plan_contents c.args.plan.now) (fault_list c.args.faults.now) c.requires.faults c.loop-k.k c.get-pair.result.0 c.get-pair.result.1.now c.get-pair.ensures

pub loop-k-preserved : goal.loop-k-preserved
loop-k-preserved c =
    let plan = plan_contents c.args.plan.now in
    let faults = fault_list c.args.faults.now in
    let found : ℕ × Fault = (c.get-pair.result.0, c.get-pair.result.1.now) in
    c.in_ok-push.ensures.items ∙ causes_more plan c.args.families.now faults c.loop-k.causes.items c.loop-k.k found c.cause_of-cause.result c.loop-k.invariant c.get-pair.ensures c.cause_of-cause.ensures
