use Rattle.std.proofs.Common.{◌≤◌, length, map, position, sym, ◌∙◌, ap, subst}
use Rattle.std.specs.Str.{bytes_eq}
use Rattle.plan_core.specs.NameBytes.{name_bytes}
use Rattle.plan_core.specs.Building.{with_sender}
use Rattle.plan_core.specs.Parts.{contents_of}
use Rattle.plan_core.specs.BuilderContents.{builder_contents}
use Rattle.plan_core.specs.PlanContents.{plan_contents}
use Rattle.plan_core.proofs.BuildingLemmas.{controller_allowed}
use Rattle.plan_core.proofs.EntryLemmas.{names_of_controllers}
use Rattle.plan_core.proofs.PlanLemmas.{limits_of}
use Rattle.plan_core.proofs.StepLemmas.{IsNumbered, IsNumbered-controller, IsNumbered-few, IsPairTable-made, contents_of-controller}
use Rattle.plan_core.proofs.builder.Builder.add_controller.Goals as goal
use Rattle.plan_core.proofs.builder.Builder.add_controller.Goals.{In_ok-participants}

-- the participants that there will be
numbered : (c : In_ok-participants) → IsNumbered c.in_ok-participants.participants.items (with_sender (builder_contents c.args.self.now) (name_bytes c.args.name) c.deref.result.now)
unfolding builder_contents
numbered c =
    IsNumbered-controller c.in_ok-participants.participants.items (plan_contents c.args.self.now.plan) (name_bytes c.args.name) (map name_bytes c.args.messages.now) c.deref.result.now (limits_of c.args.self.now.plan) c.args.name.is_name c.requires (c.deref.ensures.value ∙ c.in_ok-numbers.ensures) (c.in_ok-participants.ensures (name_bytes c.args.name))

pub new-requires : goal.new-requires
new-requires c =
    subst (λ n. n ≤ 544) (sym (ap length c.deref-2.ensures.value)) (IsNumbered-few c.in_ok-participants.participants.items _ (numbered (goal.at.new-requires c).In_ok-participants))

pub push_entry-requires : goal.push_entry-requires
unfolding builder_contents plan_contents contents_of
push_entry-requires c =
    ap (position (bytes_eq (name_bytes c.args.name))) (sym (names_of_controllers c.args.self.now.plan.controllers.entries))
    ∙ (controller_allowed _ _ _ c.requires).0

pub invariant_of-plan-2 : goal.invariant_of-plan-2
unfolding builder_contents plan_contents contents_of
invariant_of-plan-2 c =
    let plan = c.args.self.now.plan in
    let after = contents_of-controller plan.messages.entries plan.controllers.entries plan.interrupts.entries plan.nevers.items _ c.args.name c.in_ok-numbers.numbers c.in_ok-push_entry.ensures.added in
    let here = subst (IsNumbered c.in_ok-participants.participants.items) (ap (with_sender (plan_contents plan) (name_bytes c.args.name)) c.deref.ensures.value ∙ sym after) (numbered (goal.at.invariant_of-plan-2 c).In_ok-participants) in
    record {
      limits = here.limits;
      numbered = here.numbered;
      paired = IsPairTable-made c.deref-3.result.now c.deref-2.result.now _ c.in_ok-pairs.pairs c.deref-3.ensures.value (c.deref-2.ensures.value ∙ here.numbered) c.in_ok-pairs.ensures;
    }

pub returns-clause-added : goal.returns-clause-added
unfolding builder_contents plan_contents
returns-clause-added c =
    let plan = c.args.self.now.plan in
    contents_of-controller plan.messages.entries plan.controllers.entries plan.interrupts.entries plan.nevers.items _ c.args.name c.in_ok-numbers.numbers c.in_ok-push_entry.ensures.added
    ∙ ap (with_sender (plan_contents plan) (name_bytes c.args.name)) c.in_ok-numbers.ensures
