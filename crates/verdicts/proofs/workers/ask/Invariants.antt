use Rattle.std.proofs.Common.{◌≡◌}
use Rattle.verdicts.proofs.workers.ask.Given as goal

abbrev pub invariant-loop : goal.invariant-loop
invariant-loop l = (l.thief.queue ≡ l.initial.thief.queue) × (l.thief.taken ≡ l.initial.thief.taken)
