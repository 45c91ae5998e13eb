use Rattle.std.proofs.Common.{◌≡◌, ◌++◌, map, drop}
use Rattle.capture_check.specs.Transactions.{transactions_from, transactions_of}
use Rattle.capture_check.specs.Views.{bus_of, recorded}
use Rattle.capture_check.proofs.listening.transactions.Given as goal

-- the transactions so far, and those of the events that are left
abbrev pub invariant-loop-event : goal.invariant-loop-event
invariant-loop-event l = map recorded l.found.items ++ transactions_from (bus_of l.listener) (drop l.event-index l.events) ≡ transactions_of l.events
