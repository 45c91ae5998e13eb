use Rattle.given_plans.specs.Sources.{bytes_of}
use Rattle.plan_core.specs.PlanContents.{plan_contents}
use Rattle.run_parts.specs.Runs.{unwritten}
use Rattle.verifying.specs.Answering.{HaltsAtAnswer, no_memory}
use Rattle.given_runs.specs.Due.{AnsweredPlan}
use Rattle.given_runs.specs.Inputs.{DueForBoth, HaltsAtEither, ReadsTextsAndOne, at_second}
use Rattle.given_runs.specs.Written.{IsOfAnswer}
use Rattle.given_runs.proofs.RunLemmas.{written_reports, written_stops}
use Rattle.given_runs.proofs.verifying_given.verify_given.Goals as goal

pub returns-in-Ok-clause-report : goal.returns-in-Ok-clause-report
returns-in-Ok-clause-report g c =
    let it = c.in-Ok.found in
    let given = c.in-Ok.ensures.given in
    let answer = c.in-Ok.ensures.answer in
    written_reports (ReadsTextsAndOne g.I.Input.reader g.J.Input.reader) (DueForBoth AnsweredPlan) g.O.Output.writer (HaltsAtEither g.I.Input.reader g.J.Input.reader (λ plan. HaltsAtAnswer g.J.Input.reader)) (c.args.readers.now, c.args.cert.now) c.args.out.now (c.find_answered.new.readers, c.find_answered.new.cert) c.write_found.new.out (IsOfAnswer it.answered.answer) (bytes_of it.provenance.texts.items, answer.0) (c.in-Ok.ensures.read, answer.1)
    (λ report status due. record { plan = plan_contents it.answered.plan; given = given; due = record { answer = it.answered.answer; right = answer.2; line = due.0; ended = due.1 } }) c.write_found.result (λ r. r.1) c.write_found.ensures.wrote

pub returns-in-Ok-clause-stops : goal.returns-in-Ok-clause-stops
returns-in-Ok-clause-stops g c =
    let it = c.in-Ok.found in
    let given = c.in-Ok.ensures.given in
    let answer = c.in-Ok.ensures.answer in
    written_stops (ReadsTextsAndOne g.I.Input.reader g.J.Input.reader) (DueForBoth AnsweredPlan) g.O.Output.writer (HaltsAtEither g.I.Input.reader g.J.Input.reader (λ plan. HaltsAtAnswer g.J.Input.reader)) (c.args.readers.now, c.args.cert.now) c.args.out.now (c.find_answered.new.readers, c.find_answered.new.cert) c.write_found.new.out (IsOfAnswer it.answered.answer) (bytes_of it.provenance.texts.items, answer.0) (c.in-Ok.ensures.read, answer.1)
    (λ report status due. record { plan = plan_contents it.answered.plan; given = given; due = record { answer = it.answered.answer; right = answer.2; line = due.0; ended = due.1 } }) c.write_found.result (at_second c.in-Ok.ensures.read given (no_memory answer.1)) c.write_found.ensures.stops

pub returns-in-Err-clause-stops : goal.returns-in-Err-clause-stops
returns-in-Err-clause-stops g c = unwritten c.in-Err.ensures.stops
