use Rattle.std.proofs.Common.{◌≡◌, ◌++◌, List, map, drop}
use Rattle.vcd_read.specs.declared.samples.Sample.{Sample}
use Rattle.capture_check.specs.Following.{transactions_behind}
use Rattle.capture_check.specs.Views.{place_of, recorded}
use Rattle.capture_check.proofs.following.Follower.follow.Given as goal

-- the transactions so far, and those of the samples that are left
abbrev pub invariant-loop-sample : goal.invariant-loop-sample
invariant-loop-sample g l = (more : List Sample) →
    map recorded l.found.items ++ transactions_behind (place_of l.self) (drop l.sample-index l.samples ++ more)
    ≡ transactions_behind (place_of l.initial.self) (l.samples ++ more)
