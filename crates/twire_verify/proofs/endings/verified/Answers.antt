use Rattle.run_parts.specs.PlanTexts.{RefusesPlan, SpellsPlan}
use Rattle.run_parts.specs.Runs.{HaltsAtBoth, ReadsBoth, Reports, Stops}
use Rattle.verifying.specs.Verified.{Verified}
use Rattle.twire_verify.proofs.EndingLemmas.{code_reports, code_stops}
use Rattle.twire_verify.proofs.endings.verified.Goals as goal

pub returns-clause-report : goal.returns-clause-report
returns-clause-report g c =
    code_reports c.run_verify-ended.result (λ status. Reports (ReadsBoth g.I.Input.reader g.J.Input.reader) Verified g.O.Output.writer (c.args.plan.now, c.args.cert.now) c.args.out.now status (c.run_verify-ended.new.plan, c.run_verify-ended.new.cert) c.run_verify-ended.new.out) c.exit_code.result c.err.result c.exit_code.ensures c.err.ensures.value c.run_verify-ended.ensures.report

pub returns-clause-stops : goal.returns-clause-stops
returns-clause-stops g c =
    code_stops c.run_verify-ended.result (λ error. Stops (ReadsBoth g.I.Input.reader g.J.Input.reader) Verified g.O.Output.writer (HaltsAtBoth g.I.Input.reader g.J.Input.reader RefusesPlan SpellsPlan) (c.args.plan.now, c.args.cert.now) c.args.out.now error (c.run_verify-ended.new.plan, c.run_verify-ended.new.cert) c.run_verify-ended.new.out) c.exit_code.result c.err.result c.exit_code.ensures c.err.ensures.value c.run_verify-ended.ensures.stops
