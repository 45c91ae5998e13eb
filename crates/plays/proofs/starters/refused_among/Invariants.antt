use Rattle.std.proofs.Common.{◌≡◌, ◌<◌, take, drop}
use Rattle.std.specs.Prelude.{All}
use Rattle.plan_core.specs.Participants.{participant_count}
use Rattle.plan_core.specs.PlanContents.{plan_contents}
use Rattle.plays.specs.Starters.{first_refusal, starters_refusal}
use Rattle.plays.proofs.starters.refused_among.Given as goal

abbrev pub invariant-loop-k : goal.invariant-loop-k
invariant-loop-k l = record {
  known : All (λ y. y < participant_count (plan_contents l.plan)) (take l.k l.starters);
  left : starters_refusal (plan_contents l.plan) l.starters ≡ first_refusal (plan_contents l.plan) (take l.k l.starters) (drop l.k l.starters);
}
