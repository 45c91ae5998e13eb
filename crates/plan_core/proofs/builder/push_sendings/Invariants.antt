use Rattle.std.proofs.Common.{◌≡◌, ◌++◌, map, take}
use Rattle.plan_core.specs.declared.plans.Participant.TheVariants.{Sending}
use Rattle.plan_core.proofs.builder.push_sendings.Given as goal

abbrev pub invariant-loop-message : goal.invariant-loop-message
invariant-loop-message l = l.participants.items ≡ l.initial.participants.items ++ map (Sending l.controller) (take l.message-index l.messages)
