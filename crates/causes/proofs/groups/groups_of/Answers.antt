use Rattle.std.proofs.Common.{List, subst, ◌∙◌}
use Rattle.plan_core.specs.PlanContents.{plan_contents}
use Rattle.verdicts.specs.Faults.{fault_list}
use Rattle.causes.specs.declared.meetings.Cause.{Cause}
use Rattle.causes.specs.Causes.{wires_of}
use Rattle.causes.specs.Groupings.{AreGroups, group_list, number_list}
use Rattle.causes.proofs.GroupLemmas.{same_count}
use Rattle.causes.proofs.groups.groups_of.Goals as goal

pub grouped-requires : goal.grouped-requires
grouped-requires c =
    let plan = plan_contents c.args.plan.now in
    let faults = fault_list c.args.faults.now in
    record {
      wires = wires_of faults;
      whole = same_count plan c.args.families.now faults c.as_slice.result.now (c.as_slice.ensures.value ∙ c.in_ok-causes.ensures);
      sorted = rw c.as_slice-2.ensures.value c.in_ok-order.ensures;
    }

pub returns : goal.returns
returns c =
    let plan = plan_contents c.args.plan.now in
    let faults = fault_list c.args.faults.now in
    let are = c.as_slice.ensures.value ∙ c.in_ok-causes.ensures in
    let groups = c.in_ok-groups.groups in
    subst (λ (cs : List Cause). AreGroups cs (wires_of faults) (group_list groups) (number_list groups)) are
    (c.in_ok-groups.ensures (wires_of faults) (same_count plan c.args.families.now faults c.as_slice.result.now are) (rw c.as_slice-2.ensures.value c.in_ok-order.ensures))
