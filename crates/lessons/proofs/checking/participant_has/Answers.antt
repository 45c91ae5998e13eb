use Rattle.plan_core.specs.PlanContents.{plan_contents}
use Rattle.plan_core.specs.Senders.{what_is_sent}
use Rattle.lessons.proofs.PathLemmas.{by_participant}
use Rattle.lessons.proofs.checking.participant_has.Goals as goal

pub returns-then-p-participants : goal.returns-then-p-participants
returns-then-p-participants c = λ e.
    by_participant (plan_contents c.args.plan.now) c.args.path.now c.args.p (what_is_sent c.sends.result) c.sends.ensures (c.sends_path.ensures e)
