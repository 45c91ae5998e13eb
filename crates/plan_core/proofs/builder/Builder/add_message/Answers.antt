use Rattle.std.proofs.Common.{◌≡◌, ◌⊎◌, inl, inr, position, sym, ◌∙◌, ap}
use Rattle.std.specs.Str.{bytes_eq}
use Rattle.message_tree.specs.Trees.{frame_tree}
use Rattle.plan_core.specs.NameBytes.{name_bytes}
use Rattle.plan_core.specs.Building.{with_message}
use Rattle.plan_core.specs.Participants.{same_controller, forbidden}
use Rattle.plan_core.specs.Parts.{contents_of}
use Rattle.plan_core.specs.BuilderContents.{builder_contents}
use Rattle.plan_core.specs.PlanContents.{plan_contents}
use Rattle.plan_core.proofs.BuildingLemmas.{either, message_allowed}
use Rattle.plan_core.proofs.EntryLemmas.{names_of_messages}
use Rattle.plan_core.proofs.PlanLemmas.{limits_of, participants_are}
use Rattle.plan_core.proofs.StepLemmas.{IsNumbered-message, contents_of-message, contents_of-messages}
use Rattle.plan_core.proofs.builder.Builder.add_message.Goals as goal

pub push_entry-requires : goal.push_entry-requires
unfolding builder_contents plan_contents contents_of
push_entry-requires c =
    ap (position (bytes_eq (name_bytes c.args.name))) (sym (names_of_messages c.args.self.now.plan.messages.entries))
    ∙ (message_allowed _ _ _ c.requires).0

pub invariant_of-self : goal.invariant_of-self
unfolding builder_contents plan_contents contents_of same_controller forbidden
invariant_of-self c =
    let plan = c.args.self.now.plan in
    let controllers = plan.controllers.entries in
    let interrupts = plan.interrupts.entries in
    let nevers = plan.nevers.items in
    let new = c.push_entry.new.entries.entries in
    let after : (contents_of new controllers interrupts nevers ≡ with_message (plan_contents plan) (name_bytes c.args.name) (frame_tree c.args.frame)) ⊎ (contents_of new controllers interrupts nevers ≡ plan_contents plan) =
    elim (either c.push_entry.result c.push_entry.ensures.added c.push_entry.ensures.unchanged) [
      | inl e ↦ inl (contents_of-message plan.messages.entries controllers interrupts nevers new c.args.name c.args.frame e)
      | inr e ↦ inr (contents_of-messages plan.messages.entries controllers interrupts nevers new e)
    ] in
    let numbered = IsNumbered-message plan.participants.items (plan_contents plan) (contents_of new controllers interrupts nevers) (name_bytes c.args.name) (frame_tree c.args.frame) (record { limits = limits_of plan; numbered = participants_are plan }) c.args.name.is_name c.requires after in
    record { limits = numbered.limits; numbered = numbered.numbered; paired = plan.paired }

pub returns-clause-added : goal.returns-clause-added
unfolding builder_contents plan_contents
returns-clause-added c =
    let plan = c.args.self.now.plan in
    contents_of-message plan.messages.entries plan.controllers.entries plan.interrupts.entries plan.nevers.items _ c.args.name c.args.frame c.in_ok-push_entry.ensures.added
