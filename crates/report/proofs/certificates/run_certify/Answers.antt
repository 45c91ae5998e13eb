use Rattle.std.proofs.Common.{◌∙◌, subst, ℕ, List}
use Rattle.plan_core.proofs.PlanLemmas.{limits_of}
use Rattle.plan_core.specs.PlanContents.{plan_contents}
use Rattle.report.specs.Certificates.{Certified}
use Rattle.run_parts.specs.Devices.{by_parts}
use Rattle.run_parts.specs.PlanTexts.{RefusesPlan}
use Rattle.run_parts.specs.Runs.{ReadsText, HaltsAtText, Stops, unread, refused, writing}
use Rattle.run_parts.specs.RunErrors.{run_error}
use Rattle.run_parts.specs.declared.errors.RunError.TheVariants as error
use Rattle.verdicts.specs.Texts.{text_of}
use Rattle.report.proofs.CertificateLemmas.{certifies}
use Rattle.run_parts.proofs.PlanTextLemmas.{refuses_plan}
use Rattle.run_parts.proofs.RunLemmas.{on_error, halting_stops}
use Rattle.report.proofs.certificates.run_certify.Goals as goal

pub returns-in_err-text-clause-stops : goal.returns-in_err-text-clause-stops
returns-in_err-text-clause-stops g c =
    let reader = g.I.Input.reader in
    halting_stops (ReadsText reader) Certified (by_parts g.O.Output.writer) (HaltsAtText reader RefusesPlan) c.args.plan.now c.args.out.now _ c.from_residual.result c.in_err-text.field-0.0 c.from_residual.ensures.1 (unread c.in_err-text.ensures.stops)

pub returns-in_err-plan-clause-stops : goal.returns-in_err-plan-clause-stops
returns-in_err-plan-clause-stops g c =
    let reader = g.I.Input.reader in
    let e = c.in_err-plan.field-0.0 in
    let first = subst (λ (t : List ℕ). RefusesPlan t (run_error e)) c.as_slice.ensures.value (refuses_plan c.as_slice.result.now e c.in_err-plan.ensures.refused) in
    halting_stops (ReadsText reader) Certified (by_parts g.O.Output.writer) (HaltsAtText reader RefusesPlan) c.args.plan.now c.args.out.now _ c.from_residual-in_err-plan.result (run_error e) c.from_residual-in_err-plan.ensures.1 (refused c.in_ok-text.ensures.all first)

pub returns-in_err-faults-clause-stops : goal.returns-in_err-faults-clause-stops
returns-in_err-faults-clause-stops g c =
    let reader = g.I.Input.reader in
    halting_stops (ReadsText reader) Certified (by_parts g.O.Output.writer) (HaltsAtText reader RefusesPlan) c.args.plan.now c.args.out.now _ c.from_residual-in_err-faults.result error.NoMemory c.from_residual-in_err-faults.ensures.1 (refused c.in_ok-text.ensures.all tt)

pub returns-in_err-report-clause-stops : goal.returns-in_err-report-clause-stops
returns-in_err-report-clause-stops g c =
    let reader = g.I.Input.reader in
    halting_stops (ReadsText reader) Certified (by_parts g.O.Output.writer) (HaltsAtText reader RefusesPlan) c.args.plan.now c.args.out.now _ c.from_residual-in_err-report.result error.NoMemory c.from_residual-in_err-report.ensures.1 (refused c.in_ok-text.ensures.all tt)

pub returns-in_err-block-clause-stops : goal.returns-in_err-block-clause-stops
returns-in_err-block-clause-stops g c =
    let reader = g.I.Input.reader in
    halting_stops (ReadsText reader) Certified (by_parts g.O.Output.writer) (HaltsAtText reader RefusesPlan) c.args.plan.now c.args.out.now _ c.from_residual-in_err-block.result error.NoMemory c.from_residual-in_err-block.ensures.1 (refused c.in_ok-text.ensures.all tt)

pub returns-in_err-write_in_blocks-clause-stops : goal.returns-in_err-write_in_blocks-clause-stops
returns-in_err-write_in_blocks-clause-stops g c =
    let reader = g.I.Input.reader in
    let it = c.in_ok-report.ensures in
    let plan = plan_contents c.in_ok-plan.plan in
    let due = certifies c.in_ok-text.text.items c.as_slice.result.now (text_of c.in_ok-report.report) plan it.verdicts c.status_of-status.result c.as_slice.ensures.value c.in_ok-plan.ensures.spelled (limits_of c.in_ok-plan.plan) it.right it.written (c.status_of-status.ensures plan (c.is_safe.ensures plan c.in_ok-faults.ensures)) in
    on_error c.from_residual-in_err-write_in_blocks.result c.in_err-write_in_blocks.field-0.0 (λ e. Stops (ReadsText reader) Certified (by_parts g.O.Output.writer) (HaltsAtText reader RefusesPlan) c.args.plan.now c.args.out.now e c.read_within.new.reader c.write_in_blocks.new.out) c.from_residual-in_err-write_in_blocks.ensures.1 (writing c.in_ok-text.ensures.all due c.in_err-write_in_blocks.ensures.stops)

pub returns-clause-report : goal.returns-clause-report
returns-clause-report g c =
    let it = c.in_ok-report.ensures in
    let plan = plan_contents c.in_ok-plan.plan in
    let due = certifies c.in_ok-text.text.items c.as_slice.result.now (text_of c.in_ok-report.report) plan it.verdicts c.status_of-status.result c.as_slice.ensures.value c.in_ok-plan.ensures.spelled (limits_of c.in_ok-plan.plan) it.right it.written (c.status_of-status.ensures plan (c.is_safe.ensures plan c.in_ok-faults.ensures)) in
    record { texts = c.in_ok-text.text.items; read = c.in_ok-text.ensures.all; report = text_of c.in_ok-report.report; due = due; written = c.in_ok-write_in_blocks.ensures.all }
