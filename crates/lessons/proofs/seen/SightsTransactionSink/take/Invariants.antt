use Rattle.std.proofs.Common.{map, take}
use Rattle.capture_check.specs.Views.{recorded}
use Rattle.lessons.specs.Seen.{Sees}
use Rattle.lessons.proofs.seen.SightsTransactionSink.take.Given as goal

-- the first transactions were seen
abbrev pub invariant-loop-transaction : goal.invariant-loop-transaction
invariant-loop-transaction l = Sees l.initial.self (map recorded (take l.transaction-index l.transactions)) l.self
