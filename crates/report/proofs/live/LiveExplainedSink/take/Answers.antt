use Rattle.std.proofs.Common.{inr, ◌+◌, List, [], ℕ, refl, ap, sym, ◌∙◌, subst}
use Rattle.std.proofs.lemmas.List.{length-map}
use Rattle.capture_check.specs.Views.{recorded}
use Rattle.plan_core.specs.PlanContents.{plan_contents}
use Rattle.report.specs.CaptureViews.{tally_of}
use Rattle.run_parts.specs.Writing.{WritesAll, WritingStops}
use Rattle.run_parts.proofs.RunLemmas.{on_error}
use Rattle.report.proofs.live.LiveExplainedSink.take.Goals as goal

pub returns-in_err-write_report-clause-stops : goal.returns-in_err-write_report-clause-stops
returns-in_err-write_report-clause-stops g c =
    let block = tally_of c.take.new.self in
    let e = c.in_err-write_report.field-0.0 in
    on_error _ e _ c.from_residual-in_err-write_report.ensures.1
    (inr (record {
      same_writer = refl;
      block = block;
      told = c.in_ok-take.ensures.taken [] (c.new-block.ensures (plan_contents c.args.plan.now));
      stops = subst (λ (bytes : List ℕ). WritingStops g.O.Output.writer c.args.self.now.out.now bytes e c.write_report.new.writer) c.as_bytes.ensures.value c.in_err-write_report.ensures.stops;
    }))

pub returns-clause-taken : goal.returns-clause-taken
returns-clause-taken g c = record {
  same_writer = refl;
  block = tally_of c.take.new.self;
  told = c.in_ok-take.ensures.taken [] (c.new-block.ensures (plan_contents c.args.plan.now));
  written = subst (λ (bytes : List ℕ). WritesAll g.O.Output.writer c.args.self.now.out.now bytes c.write_report.new.writer) c.as_bytes.ensures.value c.in_ok-write_report.ensures.all;
  stopped = c.in_ok-stopped.ensures;
  unexplained = c.in_ok-unexplained.ensures;
  transactions = c.in_ok-told.ensures ∙ ap (λ n. c.args.self.now.transactions + n) (sym (length-map c.args.transactions.now recorded));
}
