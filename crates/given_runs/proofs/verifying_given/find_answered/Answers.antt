use Rattle.verifying.specs.Answering.{HaltsAtAnswer}
use Rattle.given_runs.specs.Inputs.{HaltsAtEither, at_plan, at_second}
use Rattle.given_runs.proofs.RunLemmas.{if_err_map}
use Rattle.given_runs.proofs.verifying_given.find_answered.Goals as goal

pub returns-in-Ok-clause-stops : goal.returns-in-Ok-clause-stops
returns-in-Ok-clause-stops g c =
    if_err_map c.answer_plan.result (λ e. HaltsAtAnswer g.J.Input.reader c.args.cert.now e c.answer_plan.new.cert)
    (λ e. HaltsAtEither g.I.Input.reader g.J.Input.reader (λ plan. HaltsAtAnswer g.J.Input.reader) (c.args.readers.now, c.args.cert.now) e (c.find_among.new.readers, c.answer_plan.new.cert))
    (λ e h. at_second c.in-Ok.ensures.read c.in-Ok.ensures.given h) c.answer_plan.ensures.stops

pub returns-in-Err-clause-stops : goal.returns-in-Err-clause-stops
returns-in-Err-clause-stops g c = at_plan c.in-Err.ensures.stops
