use Rattle.std.proofs.Common.{slice_get, sym, ◌∙◌, ap, arith, length, ◌<◌}
use Rattle.std.proofs.lemmas.Option.{slice_get_read}
use Rattle.plan_core.specs.PlanContents.{plan_contents}
use Rattle.plan_core.proofs.ContentsLemmas.{participant_known}
use Rattle.plan_core.proofs.PlanLemmas.{limits_of, participants_are}
use Rattle.plan_core.proofs.plans.Plan.participant.Goals as goal

pub returns-clause-known : goal.returns-clause-known
returns-clause-known c =
    let plan = c.args.self.now in
    let within : c.args.i < length plan.participants.items = omega (arith, c.requires, ap length (participants_are plan)) in
    participant_known (plan_contents plan) (limits_of plan) c.args.i c.index.result.now
    (ap (λ ps. slice_get ps c.args.i) (sym (participants_are plan)) ∙ slice_get_read plan.participants.items (length plan.participants.items) c.args.i c.index.result.now (λ i. length plan.participants.items) within c.index.ensures)
