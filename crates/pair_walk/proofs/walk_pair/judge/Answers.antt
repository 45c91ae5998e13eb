use Rattle.std.proofs.Common.{reverse, arith}
use Rattle.plan_core.specs.PlanContents.{plan_contents}
use Rattle.plan_core.specs.Senders.{what_is_sent}
use Rattle.pair_walk.proofs.Faulty.{pair_is_below, fault_at, proof_at, fault_read}
use Rattle.pair_walk.proofs.walk_pair.judge.Goals as goal

pub sends-requires : goal.sends-requires
sends-requires g c =
    let b = pair_is_below (plan_contents c.args.plan.now) c.args.i c.pair-x.result c.pair-x.ensures in
    omega (arith, b.0, b.1)

pub sends-requires-2 : goal.sends-requires-2
sends-requires-2 g c =
    (pair_is_below (plan_contents c.args.plan.now) c.args.i c.pair-x.result c.pair-x.ensures).1

pub returns-in-Ok : goal.returns-in-Ok
returns-in-Ok g c x y e =
    let made = c.in-Ok.ensures in
    (made.0, made.1, proof_at (plan_contents c.args.plan.now) c.args.i c.pair-x.result (what_is_sent c.sends.result) (what_is_sent c.sends-2.result) made.0 c.pair-x.ensures c.sends.ensures c.sends-2.ensures made.2 x y e)

pub returns-in-Err-Clash : goal.returns-in-Err-Clash
returns-in-Err-Clash g c x y e =
    let m = c.in-Err-Clash.meeting in
    let f = fault_at (plan_contents c.args.plan.now) c.args.i c.pair-x.result (what_is_sent c.sends.result) (what_is_sent c.sends-2.result) (reverse m.back.items) m.first m.second c.pair-x.ensures c.sends.ensures c.sends-2.ensures (rw c.in-Err-Clash.field-0-is at c.in-Err-Clash.ensures) x y e in
    fault_read (plan_contents c.args.plan.now) x y (reverse m.back.items) c.fault_of.result.wire.items m.first m.second c.fault_of.result.first c.fault_of.result.second c.fault_of.ensures.wire c.fault_of.ensures.first c.fault_of.ensures.second f
