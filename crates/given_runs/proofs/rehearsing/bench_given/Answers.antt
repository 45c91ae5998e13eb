use Rattle.given_plans.specs.Sources.{bytes_of}
use Rattle.run_parts.specs.Runs.{unwritten}
use Rattle.given_runs.specs.Due.{RehearsedPlan}
use Rattle.given_runs.specs.Inputs.{DueForBoth, HaltsAtEither, ReadsTextsAndOne, at_second}
use Rattle.given_runs.specs.Starting.{HaltsAtStarters, no_memory}
use Rattle.given_runs.proofs.RehearsalLemmas.{rehearsed_plan, bench_reports, bench_stops}
use Rattle.given_runs.proofs.rehearsing.bench_given.Goals as goal

pub returns-in-Ok-clause-report : goal.returns-in-Ok-clause-report
returns-in-Ok-clause-report g c =
    let it = c.in-Ok.found in
    let outcome = c.in-Ok.ensures.outcome in
    bench_reports (ReadsTextsAndOne g.I.Input.reader g.J.Input.reader) (DueForBoth (RehearsedPlan c.args.starters.now c.args.answers.now c.args.fill)) g.O.Output.writer (HaltsAtEither g.I.Input.reader g.J.Input.reader (HaltsAtStarters g.J.Input.reader c.args.starters.now)) (c.args.readers.now, c.args.cert.now) c.args.out.now (c.find_rehearsed.new.readers, c.find_rehearsed.new.cert) c.write_found.new.out it.outcome (bytes_of it.provenance.texts.items, it.cert.items) (c.in-Ok.ensures.read, c.in-Ok.ensures.cert)
    (λ report status due. record { plan = outcome.0; given = outcome.1; due = rehearsed_plan outcome.0 c.args.starters.now c.args.answers.now c.args.fill it.cert.items it.outcome outcome.2 report status due }) c.write_found.result c.write_found.ensures.wrote

pub returns-in-Ok-clause-stops : goal.returns-in-Ok-clause-stops
returns-in-Ok-clause-stops g c =
    let it = c.in-Ok.found in
    let outcome = c.in-Ok.ensures.outcome in
    bench_stops (ReadsTextsAndOne g.I.Input.reader g.J.Input.reader) (DueForBoth (RehearsedPlan c.args.starters.now c.args.answers.now c.args.fill)) g.O.Output.writer (HaltsAtEither g.I.Input.reader g.J.Input.reader (HaltsAtStarters g.J.Input.reader c.args.starters.now)) (c.args.readers.now, c.args.cert.now) c.args.out.now (c.find_rehearsed.new.readers, c.find_rehearsed.new.cert) c.write_found.new.out it.outcome (bytes_of it.provenance.texts.items, it.cert.items) (c.in-Ok.ensures.read, c.in-Ok.ensures.cert)
    (λ report status due. record { plan = outcome.0; given = outcome.1; due = rehearsed_plan outcome.0 c.args.starters.now c.args.answers.now c.args.fill it.cert.items it.outcome outcome.2 report status due }) c.write_found.result (at_second c.in-Ok.ensures.read outcome.1 (no_memory c.in-Ok.ensures.cert)) c.write_found.ensures.stops

pub returns-in-Err-clause-stops : goal.returns-in-Err-clause-stops
returns-in-Err-clause-stops g c = unwritten c.in-Err.ensures.stops
