use Rattle.std.proofs.Common.{refl, sym, subst}
use Rattle.verifying.specs.Accepts.{AnswersBytes}
use Rattle.cert_check.specs.declared.answers.Answer.{Answer}
use Rattle.plan_core.specs.PlanContents.{plan_contents}
use Rattle.plan_core.specs.declared.plans.Plan.{Plan}
use Rattle.plan_text.specs.Grammar.{Spells}
use Rattle.run_parts.specs.PlanTexts.{RefusesPlan, SpellsPlan}
use Rattle.run_parts.specs.Runs.{HaltsAtBoth, at_first}
use Rattle.verifying.proofs.AnswerReading.{halts_at_both, answers_read}
use Rattle.run_parts.proofs.RunLemmas.{on_error}
use Rattle.verifying.proofs.verification.verify_plan.Goals as goal

pub returns-in_err-plan-clause-stops : goal.returns-in_err-plan-clause-stops
returns-in_err-plan-clause-stops g c =
    on_error c.from_residual.result c.in_err-plan.field-0.0 (λ e. HaltsAtBoth g.I.Input.reader g.J.Input.reader RefusesPlan SpellsPlan (c.args.plan.now, c.args.cert.now) e (c.find_plan.new.plan, c.args.cert.now)) c.from_residual.ensures.1 (at_first c.in_err-plan.ensures.stops)

pub returns-in_err-judged-clause-stops : goal.returns-in_err-judged-clause-stops
returns-in_err-judged-clause-stops g c =
    let found = c.in_ok-plan.ensures.found in
    let e = c.in_err-judged.field-0.0 in
    on_error c.from_residual-in_err-judged.result e (λ e. HaltsAtBoth g.I.Input.reader g.J.Input.reader RefusesPlan SpellsPlan (c.args.plan.now, c.args.cert.now) e (c.find_plan.new.plan, c.read_answer.new.cert)) c.from_residual-in_err-judged.ensures.1
    (halts_at_both g.I.Input.reader g.J.Input.reader (c.args.plan.now, c.args.cert.now) c.find_plan.new.plan c.read_answer.new.cert found.texts e found.read (plan_contents c.in_ok-plan.plan, found.due) c.in_err-judged.ensures.stops)

pub returns-clause-found : goal.returns-clause-found
returns-clause-found g c =
    let found = c.in_ok-plan.ensures.found in
    let all = c.in_ok-judged.ensures.all in
    let right = answers_read found.texts found.texts all.0 (plan_contents c.in_ok-plan.plan) c.in_ok-judged.judged.answer refl found.due all.2 in
    record {
      texts = (found.texts, all.0);
      read = (found.read, all.1);
      due = record {
        spelled = subst (λ (p : Plan). Spells found.texts (plan_contents p)) (sym c.answered.ensures.plan) found.due;
        right = subst (λ (a : Answer). AnswersBytes found.texts all.0 a) (sym c.answered.ensures.answer) right;
      };
    }
