use Rattle.std.proofs.Common.{◌∙◌, ◌++◌, [], List, ap, append-nil}
use Rattle.vcd_read.specs.declared.samples.Sample.{Sample}
use Rattle.pulses.specs.Filtering.{behind}
use Rattle.pulses.proofs.filtering.Filter.feed_to_end.Goals as goal

pub returns-clause-handed : goal.returns-clause-handed
returns-clause-handed c =
    c.in_ok-end.ensures.handed
    ∙ (c.in_ok-feed.ensures.handed []
    ∙ ap (λ (samples : List Sample). c.args.quiet.now.items ++ behind c.args.self.now samples)
    (append-nil c.args.samples.now))
