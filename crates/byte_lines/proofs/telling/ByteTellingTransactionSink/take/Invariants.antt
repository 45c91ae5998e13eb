use Rattle.std.proofs.Common.{map, take}
use Rattle.byte_lines.specs.Views.{TellsMore}
use Rattle.capture_check.specs.Views.{recorded}
use Rattle.byte_lines.proofs.telling.ByteTellingTransactionSink.take.Given as goal

-- the first transactions are told
abbrev pub invariant-loop-transaction : goal.invariant-loop-transaction
invariant-loop-transaction l = TellsMore l.initial.self (map recorded (take l.transaction-index l.transactions)) l.self
