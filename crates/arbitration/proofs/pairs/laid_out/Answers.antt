use Rattle.std.proofs.Common.{[], ◌∷◌, length, length-append, ap, ◌∙◌, arith}
use Rattle.plan_core.specs.Participants.{sender_at}
use Rattle.plan_core.specs.PlanContents.{plan_contents}
use Rattle.plan_core.specs.Senders.{what_is_sent}
use Rattle.plan_core.proofs.PlanLemmas.{limits_of}
use Rattle.arbitration.proofs.SenderLemmas.{one_more_sent}
use Rattle.arbitration.proofs.Runs.{sender_fits}
use Rattle.arbitration.proofs.pairs.laid_out.Goals as goal

pub numbered-requires-clause-slots : goal.numbered-requires-clause-slots
numbered-requires-clause-slots c =
    omega (arith, sender_fits (plan_contents c.args.plan.now) c.loop-p.p (what_is_sent c.sends-sends.result) (limits_of c.args.plan.now).messages.bytes c.sends-sends.ensures)

pub loop-p-preserved : goal.loop-p-preserved
loop-p-preserved c =
    let plan = plan_contents c.args.plan.now in
    let i = c.loop-p.invariant in
    let xs = c.loop-p.sent.items in
    let m = c.in_ok-push.ensures.items in
    let put = c.in_ok-numbered in
    record {
      all = omega (arith, i.all, ap length m, length-append xs (put.field-0 ∷ []));
      sent = one_more_sent plan c.loop-p.frames.entries.items c.numbered.new.frames.entries.items put.ensures.grows xs c.push.new.self.items put.field-0 (what_is_sent c.sends-sends.result) m i.sent (ap (sender_at plan) i.all ∙ c.sends-sends.ensures) put.ensures.sent;
      frames = put.ensures.frames;
    }
