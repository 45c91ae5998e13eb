use Rattle.std.proofs.Common.{◌≡◌, ◌+◌, length, arith, ap, ◌∙◌}
use Rattle.std.proofs.lemmas.List.{length-map}
use Rattle.plan_core.specs.Limits.{sending_count}
use Rattle.plan_core.specs.Parts.{contents_of, interrupt_of}
use Rattle.plan_core.specs.BuilderContents.{builder_contents}
use Rattle.plan_core.specs.PlanContents.{plan_contents}
use Rattle.plan_core.specs.declared.plans.Plan.{Plan}
use Rattle.plan_core.proofs.ContentsLemmas.{participant_count-is}
use Rattle.plan_core.proofs.PlanLemmas.{participants_are}
use Rattle.plan_core.proofs.builder.Builder.sendings.Goals as goal

count : (plan : Plan) → length plan.participants.items ≡ sending_count (plan_contents plan).controllers + length plan.interrupts.entries
unfolding plan_contents contents_of
count plan = ap length (participants_are plan) ∙ participant_count-is (plan_contents plan) ∙ ap (λ n. sending_count (plan_contents plan).controllers + n) (length-map plan.interrupts.entries interrupt_of)

pub overflow_sub-result : goal.overflow_sub-result
overflow_sub-result c = omega (arith, count c.args.self.now.plan, c.len.ensures, c.len-2.ensures.len, c.args.self.now.plan.participants.ok.0)

pub returns : goal.returns
unfolding builder_contents
returns c = omega (arith, count c.args.self.now.plan, c.len.ensures, c.len-2.ensures.len, c.args.self.now.plan.participants.ok.0)
