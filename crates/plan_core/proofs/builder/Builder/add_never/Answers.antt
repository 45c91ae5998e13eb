use Rattle.std.proofs.Common.{◌≡◌, ◌≤◌, ◌++◌, ◌∷◌, [], is_some, unwrap_or, length, sym, ◌∙◌, ap, subst}
use Rattle.plan_core.specs.NameBytes.{name_bytes}
use Rattle.plan_core.specs.Building.{controller_number, with_never}
use Rattle.plan_core.specs.BuilderContents.{builder_contents}
use Rattle.plan_core.specs.Limits.{IsWithinLimits}
use Rattle.plan_core.specs.Participants.{participants_of}
use Rattle.plan_core.specs.Parts.{contents_of}
use Rattle.plan_core.specs.PlanContents.{plan_contents}
use Rattle.plan_core.proofs.BuildingLemmas.{never_allowed, limits-never}
use Rattle.plan_core.proofs.PlanLemmas.{limits_of, participants_are, participants_few}
use Rattle.plan_core.proofs.StepLemmas.{IsPairTable-made, contents_of-never, participants_of-never}
use Rattle.plan_core.proofs.builder.Builder.add_never.Goals as goal
use Rattle.plan_core.proofs.builder.Builder.add_never.Goals.{In_ok-nevers}

pub unwrap-c-requires : goal.unwrap-c-requires
unwrap-c-requires c = ap is_some (c.controller_number.ensures ∙ (never_allowed _ _ _ c.requires).at_first)

pub unwrap-d-requires : goal.unwrap-d-requires
unwrap-d-requires c = ap is_some (c.controller_number-2.ensures ∙ (never_allowed _ _ _ c.requires).at_second)

pub new-requires : goal.new-requires
new-requires c = subst (λ n. n ≤ 544) (sym (ap length c.deref-2.ensures.value)) (participants_few c.args.self.now.plan)

-- what the plan holds then
after : (c : In_ok-nevers) → contents_of c.args.self.now.plan.messages.entries c.args.self.now.plan.controllers.entries c.args.self.now.plan.interrupts.entries c.in_ok-nevers.nevers.items ≡ with_never (builder_contents c.args.self.now) (name_bytes c.args.first.now) (name_bytes c.args.second.now)
unfolding builder_contents plan_contents
after c =
    let plan = c.args.self.now.plan in
    let first : c.unwrap-c.result ≡ controller_number (plan_contents plan) (name_bytes c.args.first.now) = ap (λ o. unwrap_or o 0) (sym c.unwrap-c.ensures ∙ c.controller_number.ensures) in
    let second : c.unwrap-d.result ≡ controller_number (plan_contents plan) (name_bytes c.args.second.now) = ap (λ o. unwrap_or o 0) (sym c.unwrap-d.ensures ∙ c.controller_number-2.ensures) in
    let items = c.in_ok-nevers.ensures ∙ ap (λ xs. xs ++ (c.unwrap-c.result, c.unwrap-d.result) ∷ []) c.deref.ensures.value in
    contents_of-never plan.messages.entries plan.controllers.entries plan.interrupts.entries plan.nevers.items c.in_ok-nevers.nevers.items (name_bytes c.args.first.now) (name_bytes c.args.second.now) c.unwrap-c.result c.unwrap-d.result items first second

pub invariant_of-plan : goal.invariant_of-plan
unfolding builder_contents contents_of
invariant_of-plan c =
    let plan = c.args.self.now.plan in
    let holds = after (goal.at.invariant_of-plan c).In_ok-nevers in
    let numbered = participants_are plan ∙ sym (participants_of-never (plan_contents plan) _ _) ∙ ap participants_of (sym holds) in
    record {
      limits = subst IsWithinLimits (sym holds) (limits-never (plan_contents plan) _ _ (limits_of plan) c.requires);
      numbered = numbered;
      paired = IsPairTable-made c.deref-3.result.now c.deref-2.result.now _ c.in_ok-pairs.pairs c.deref-3.ensures.value (c.deref-2.ensures.value ∙ numbered) c.in_ok-pairs.ensures;
    }

pub returns-clause-added : goal.returns-clause-added
unfolding builder_contents plan_contents
returns-clause-added c = after (goal.at.returns-clause-added c).In_ok-nevers
