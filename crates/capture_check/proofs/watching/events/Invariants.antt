use Rattle.std.proofs.Common.{◌≡◌, ◌++◌, drop}
use Rattle.capture_check.specs.Events.{events_from, events_of}
use Rattle.capture_check.specs.Views.{seen_of}
use Rattle.capture_check.proofs.watching.events.Given as goal

-- the events so far, and those of the samples that are left
abbrev pub invariant-loop-sample : goal.invariant-loop-sample
invariant-loop-sample l = l.events.items ++ events_from (seen_of l.watch) (drop l.sample-index l.samples) ≡ events_of l.samples
