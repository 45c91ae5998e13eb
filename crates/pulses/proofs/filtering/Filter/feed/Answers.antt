use Rattle.std.proofs.Common.{◌∙◌, ◌++◌, suc, List, ap, sym, drop, drop-cons, add-one}
use Rattle.vcd_read.specs.declared.samples.Sample.{Sample}
use Rattle.pulses.specs.Filtering.{behind}
use Rattle.pulses.proofs.filtering.Filter.feed.Goals as goal

pub loop-sample-preserved : goal.loop-sample-preserved
loop-sample-preserved c = (
  (λ more.
      rw (add-one c.loop-sample.sample-index)
      (c.in_ok-next.ensures.handed (drop (suc c.loop-sample.sample-index) c.args.samples.now ++ more)
      ∙ (ap (λ (left : List Sample). c.loop-sample.quiet.items ++ behind c.loop-sample.self (left ++ more))
      (sym (drop-cons c.args.samples.now c.loop-sample.sample-index _ c.loop-sample-test.true))
      ∙ c.loop-sample.invariant.0 more))),
  c.in_ok-next.ensures.least ∙ c.loop-sample.invariant.1,
  (λ before. c.in_ok-next.ensures.gone_on (c.loop-sample.invariant.2 before)),
)
