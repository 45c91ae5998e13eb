use Rattle.plan_core.specs.Participants.{participant_count}
use Rattle.plan_core.proofs.Texts.{length_bound, end_bound}
use Rattle.plan_core.proofs.Model.{somebody, followed_on, still_in}
use Rattle.plan_core.proofs.Safety.{has_one_wire}
use Rattle.plan_core.proofs.laws.runs_are_sound.Goals as goal

pub returns-clause-live : goal.returns-clause-live
returns-clause-live c plan s live u r = somebody r.0.some r.1

pub returns-clause-wire : goal.returns-clause-wire
returns-clause-wire c plan s live u put r o n =
    let p = somebody r.0.some r.1 in
    has_one_wire (participant_count plan) live (λ q j. r.0.participants q (still_in r.1 q j)) put p.0 p.1 o.heard n

pub returns-clause-bound : goal.returns-clause-bound
returns-clause-bound c plan s live u h r =
    let p = somebody r.0.some r.1 in
    length_bound plan p.0 u h (followed_on r.1 p.0 p.1)

pub returns-clause-whole : goal.returns-clause-whole
returns-clause-whole c plan s live u p r e i = end_bound plan p u e (followed_on r p i)
