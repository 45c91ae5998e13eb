use Rattle.given_plans.specs.Sources.{DueFor, ReadsTexts, after_all, bytes_of}
use Rattle.run_parts.specs.Runs.{unwritten}
use Rattle.given_runs.specs.Due.{SelfRehearsedPlan}
use Rattle.given_runs.specs.Starting.{HaltsAtOwnStarters, at_texts}
use Rattle.given_runs.proofs.RehearsalLemmas.{self_rehearsed_plan, bench_reports, bench_stops}
use Rattle.given_runs.proofs.rehearsing.self_bench_given.Goals as goal

pub returns-in-Ok-clause-report : goal.returns-in-Ok-clause-report
returns-in-Ok-clause-report g c =
    let it = c.in-Ok.found in
    let o = c.in-Ok.ensures.outcome in
    bench_reports (ReadsTexts g.I.Input.reader) (DueFor (SelfRehearsedPlan c.args.starters.now c.args.answers.now c.args.fill)) g.O.Output.writer (HaltsAtOwnStarters g.I.Input.reader c.args.starters.now) c.args.readers.now c.args.out.now c.find_self_rehearsed.new.readers c.write_found.new.out it.outcome (bytes_of it.provenance.texts.items) c.in-Ok.ensures.read
    (λ report status due. record { plan = o.0; given = o.1; due = self_rehearsed_plan o.0 c.args.starters.now c.args.answers.now c.args.fill it.cert.items it.outcome o.2 o.3 o.4 report status due }) c.write_found.result c.write_found.ensures.wrote

pub returns-in-Ok-clause-stops : goal.returns-in-Ok-clause-stops
returns-in-Ok-clause-stops g c =
    let it = c.in-Ok.found in
    let o = c.in-Ok.ensures.outcome in
    bench_stops (ReadsTexts g.I.Input.reader) (DueFor (SelfRehearsedPlan c.args.starters.now c.args.answers.now c.args.fill)) g.O.Output.writer (HaltsAtOwnStarters g.I.Input.reader c.args.starters.now) c.args.readers.now c.args.out.now c.find_self_rehearsed.new.readers c.write_found.new.out it.outcome (bytes_of it.provenance.texts.items) c.in-Ok.ensures.read
    (λ report status due. record { plan = o.0; given = o.1; due = self_rehearsed_plan o.0 c.args.starters.now c.args.answers.now c.args.fill it.cert.items it.outcome o.2 o.3 o.4 report status due }) c.write_found.result (at_texts (after_all c.in-Ok.ensures.read)) c.write_found.ensures.stops

pub returns-in-Err-clause-stops : goal.returns-in-Err-clause-stops
returns-in-Err-clause-stops g c = unwritten c.in-Err.ensures.stops
