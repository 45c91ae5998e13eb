use Rattle.std.proofs.Common.{◌≡◌, length}
use Rattle.cert_check.specs.Fed.{IsOf}
use Rattle.plan_core.specs.PlanContents.{plan_contents}
use Rattle.verifying.proofs.AnswerReading.{ReadsOn}
use Rattle.verifying.proofs.answering.answer_blocks.Given as goal

abbrev pub invariant-loop : goal.invariant-loop
invariant-loop g l = record {
  size : length l.block ≡ 65_536;
  plan : IsOf (plan_contents l.plan) l.checker;
  reads : ReadsOn g.J.Input.reader l.initial.cert (plan_contents l.plan) l.counter l.cert l.checker;
}
