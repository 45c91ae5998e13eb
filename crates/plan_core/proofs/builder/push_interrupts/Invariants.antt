use Rattle.std.proofs.Common.{◌≡◌, ◌++◌, map}
use Rattle.std.specs.List.{range_with_len}
use Rattle.plan_core.specs.declared.plans.Participant.TheVariants.{Interrupt}
use Rattle.plan_core.proofs.builder.push_interrupts.Given as goal

abbrev pub invariant-loop-k : goal.invariant-loop-k
invariant-loop-k l = l.participants.items ≡ l.initial.participants.items ++ map Interrupt (range_with_len 0 l.k)
