use Rattle.std.proofs.Common.{ℕ, Bool, List, Vec, Global, sym, subst, ◌∙◌}
use Rattle.std.proofs.lemmas.Result.{IfOk-weaker}
use Rattle.plan_core.proofs.PlanLemmas.{limits_of}
use Rattle.plan_core.specs.PlanContents.{plan_contents}
use Rattle.verdicts.specs.Faults.{fault_list}
use Rattle.mending.proofs.EditLemmas.{all_below, answer_says}
use Rattle.mending.specs.Numbers.{AreBelow}
use Rattle.mending.proofs.left.left_by.Goals as goal

pub left_of-requires-clause-before : goal.left_of-requires-clause-before
left_of-requires-clause-before c =
    let plan = plan_contents c.args.plan.now in
    let these = c.as_slice.ensures.value ∙ c.in_ok-before.ensures in
    subst (λ (it : ℕ × List (ℕ × ℕ)). AreBelow it.0 it.1) (λ i. (sym c.number_count.ensures.value i, sym these i)) (all_below plan plan (fault_list c.args.faults.now))

pub left_of-requires-clause-later : goal.left_of-requires-clause-later
left_of-requires-clause-later c =
    let plan = plan_contents c.args.plan.now in
    let these = c.as_slice-2.ensures.value ∙ c.in_ok-later.ensures in
    subst (λ (it : ℕ × List (ℕ × ℕ)). AreBelow it.0 it.1) (λ i. (sym c.number_count.ensures.value i, sym these i)) (all_below plan (plan_contents c.args.edited.now) (fault_list c.args.after.now))

pub returns-clause-none : goal.returns-clause-none
returns-clause-none c =
    let plan = c.args.plan.now in
    let before = c.as_slice.ensures.value ∙ c.in_ok-before.ensures in
    let later = c.as_slice-2.ensures.value ∙ c.in_ok-later.ensures in
    IfOk-weaker c.left_of.result _ _ (λ answer h.
    (answer_says (plan_contents plan) (plan_contents c.args.edited.now) (limits_of plan) (fault_list c.args.faults.now) (fault_list c.args.after.now) c.requires.faults c.requires.after (λ (left : Vec Bool Global). left.items) answer c.as_slice.result.now c.as_slice-2.result.now before later h).0) c.left_of.ensures

pub returns-clause-left : goal.returns-clause-left
returns-clause-left c =
    let plan = c.args.plan.now in
    let before = c.as_slice.ensures.value ∙ c.in_ok-before.ensures in
    let later = c.as_slice-2.ensures.value ∙ c.in_ok-later.ensures in
    IfOk-weaker c.left_of.result _ _ (λ answer h.
    (answer_says (plan_contents plan) (plan_contents c.args.edited.now) (limits_of plan) (fault_list c.args.faults.now) (fault_list c.args.after.now) c.requires.faults c.requires.after (λ (left : Vec Bool Global). left.items) answer c.as_slice.result.now c.as_slice-2.result.now before later h).1) c.left_of.ensures
