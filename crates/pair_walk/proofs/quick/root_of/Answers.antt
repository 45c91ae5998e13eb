use Rattle.std.proofs.Common.{refl, length, arith, ◌<◌}
use Rattle.std.proofs.lemmas.Option.{slice_get_read}
use Rattle.plan_core.specs.PlanContents.{plan_contents}
use Rattle.plan_core.proofs.SenderLemmas.{sends_message}
use Rattle.pair_walk.proofs.SharedLemmas.{message_there}
use Rattle.pair_walk.proofs.quick.root_of.Goals as goal

pub returns-then-m-len : goal.returns-then-m-len
returns-then-m-len c =
    let plan = plan_contents c.args.plan.now in
    let roots = c.args.shared.now.roots.items in
    let m = c.in-Sending.message in
    let there = message_there plan.messages m c.in-Sending.ensures.known.1 in
    let within : m < length roots = omega (arith, c.len.ensures, c.args.shared.now.roots.ok.0) in
    let got = slice_get_read roots (length roots) m c.index.result.now refl within c.index.ensures in
    (there.0, sends_message plan c.args.x c.in-Sending.controller m there.0 c.in-Sending.ensures.value there.1, c.requires.nodes.shown m c.index.result.now there.0 there.1 got)
