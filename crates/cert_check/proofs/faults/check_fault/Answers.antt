use Rattle.std.proofs.Common.{arith}
use Rattle.plan_core.specs.PlanContents.{plan_contents}
use Rattle.plan_core.specs.Senders.{what_is_sent}
use Rattle.plan_core.proofs.SenderPlaceLemmas.{pair_within}
use Rattle.cert_check.proofs.Checked.{pair_faulty}
use Rattle.cert_check.proofs.WireLemmas.{along}
use Rattle.cert_check.proofs.faults.check_fault.Goals as goal

pub sends-requires : goal.sends-requires
sends-requires c =
    let within = pair_within (plan_contents c.args.plan.now) c.args.i c.pair-x.result.0 c.pair-x.result.1 c.pair-x.ensures in
    omega (arith, within.0, within.1)

pub sends-requires-2 : goal.sends-requires-2
sends-requires-2 c =
    (pair_within (plan_contents c.args.plan.now) c.args.i c.pair-x.result.0 c.pair-x.result.1 c.pair-x.ensures).1

pub returns : goal.returns
returns c =
    along c.may_clash.ensures (pair_faulty (plan_contents c.args.plan.now) c.args.i c.pair-x.result.0 c.pair-x.result.1 (what_is_sent c.sends.result) (what_is_sent c.sends-2.result) c.args.fault.now.wire.items c.args.fault.now.first c.args.fault.now.second c.pair-x.ensures c.sends.ensures c.sends-2.ensures)
