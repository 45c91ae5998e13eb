use Rattle.std.proofs.Common.{◌≡◌, ◌++◌, List, drop}
use Rattle.vcd_read.specs.declared.samples.Sample.{Sample}
use Rattle.pulses.specs.Filtering.{behind, least_of, HaveGoneOn}
use Rattle.pulses.proofs.filtering.Filter.feed.Given as goal

-- the samples so far, and those that come of the samples that are left
abbrev pub invariant-loop-sample : goal.invariant-loop-sample
invariant-loop-sample l = ((more : List Sample) →
    l.quiet.items ++ behind l.self (drop l.sample-index l.samples ++ more)
    ≡ l.initial.quiet.items ++ behind l.initial.self (l.samples ++ more))
    × (least_of l.self ≡ least_of l.initial.self)
    × (HaveGoneOn l.initial.self → HaveGoneOn l.self)
