use Rattle.std.proofs.Common.{◌≡◌}
use Rattle.calls.proofs.quiet.asked.Given as goal

abbrev pub invariant-loop : goal.invariant-loop
invariant-loop l = l.thief.queue ≡ l.initial.thief.queue
