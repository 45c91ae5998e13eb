use Rattle.std.proofs.Common.{refl, arith}
use Rattle.plan_core.specs.PlanContents.{plan_contents}
use Rattle.plan_core.specs.Senders.{what_is_sent}
use Rattle.plan_core.proofs.SenderPlaceLemmas.{pair_within}
use Rattle.certificate.specs.Proves.{Proves}
use Rattle.cert_check.proofs.Checked.{pair_proved}
use Rattle.cert_check.proofs.QuickLemmas.{line_begins}
use Rattle.cert_check.proofs.quick.quick_line.Goals as goal

pub sends-requires : goal.sends-requires
sends-requires c =
    let within = pair_within (plan_contents c.args.plan.now) c.args.i c.pair-x.result.0 c.pair-x.result.1 c.pair-x.ensures in
    omega (arith, within.0, within.1)

pub sends-requires-2 : goal.sends-requires-2
sends-requires-2 c =
    (pair_within (plan_contents c.args.plan.now) c.args.i c.pair-x.result.0 c.pair-x.result.1 c.pair-x.ensures).1

pub returns : goal.returns
returns c =
    let plan = plan_contents c.args.plan.now in
    let s = what_is_sent c.sends.result in
    let u = what_is_sent c.sends-2.result in
    line_begins plan c.args.i _ (λ t. Proves t s u) c.args.text.now c.in_ok-end.end.now c.in_ok-rest.rest.now refl c.in_ok-rest.ensures
    (λ t h. (pair_proved plan c.args.i c.pair-x.result.0 c.pair-x.result.1 s u t c.pair-x.ensures c.sends.ensures c.sends-2.ensures).0 h)
    c.in_ok-end.ensures
