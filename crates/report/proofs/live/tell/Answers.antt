use Rattle.std.proofs.Common.{sym, subst, refl, rules}
use Rattle.plan_core.specs.PlanContents.{plan_contents}
use Rattle.vcd_read.specs.Views.{asked}
use Rattle.report.specs.LiveCaptures.{HaltsLive}
use Rattle.report.specs.LiveViews.{HasTold}
use Rattle.report.specs.declared.telling.Telling.{Telling}
use Rattle.report.proofs.LiveLemmas.{halts_live, tells_all}
use Rattle.run_parts.proofs.RunLemmas.{on_error}
use Rattle.report.proofs.live.tell.Goals as goal

-- What the writer is comes back with the reference, whose name has stayed: that is the fact that `search` finds.
pub returns-in_err-ending-clause-stops : goal.returns-in_err-ending-clause-stops
returns-in_err-ending-clause-stops g c =
    let e = c.in_err-ending.field-0.0 in
    let why = halts_live g.O.Output.writer _ c.args.least (asked c.args.scl) (asked c.args.sda) g.J.Input.reader c.args.vcd.now c.decode.new.vcd e c.decode.new.sink c.in_err-ending.ensures.stops in
    let same = sym why.0 in
    on_error c.from_residual.result e _ c.from_residual.ensures.1
    (subst (λ out. HaltsLive c.args.least (asked c.args.scl) (asked c.args.sda) (plan_contents c.args.plan.now) g.J.Input.reader g.O.Output.writer c.args.vcd.now c.args.out.now e c.decode.new.vcd out) (sym (search rules)) why.1)

pub returns-clause-all : goal.returns-clause-all
returns-clause-all g c =
    let it : Telling = record { lines = c.new.result; transactions = c.decode.new.sink.sink.transactions; stopped = c.decode.new.sink.sink.stopped; unexplained = c.decode.new.sink.sink.unexplained; signs = c.in_ok-ending.ending.signs } in
    let all = tells_all g.O.Output.writer _ c.args.least (asked c.args.scl) (asked c.args.sda) g.J.Input.reader c.args.vcd.now c.decode.new.vcd c.decode.new.sink it refl refl refl refl refl refl c.new.ensures.bytes c.in_ok-ending.ensures.all in
    let same = sym all.0 in
    subst (λ out. HasTold c.args.least (asked c.args.scl) (asked c.args.sda) (plan_contents c.args.plan.now) g.J.Input.reader g.O.Output.writer c.args.vcd.now c.args.out.now it c.decode.new.vcd out) (sym (search rules)) all.1
