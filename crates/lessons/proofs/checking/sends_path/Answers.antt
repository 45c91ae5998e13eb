use Rattle.std.proofs.Common.{◌∙◌, sym, subst}
use Rattle.message_tree.specs.Trees.{frame_tree}
use Rattle.plan_core.specs.Senders.{what_is_sent}
use Rattle.capture_check.specs.Explained.{MayLeave}
use Rattle.plan_core.specs.declared.senders.Sends.{Sends}
use Rattle.lessons.proofs.PathLemmas.{takes_all}
use Rattle.lessons.proofs.checking.sends_path.Goals as goal

pub returns-in-Message : goal.returns-in-Message
returns-in-Message c = λ e marks h.
    subst (λ (s : Sends). MayLeave (what_is_sent s) marks) (sym c.in-Message.is)
    (takes_all (frame_tree c.in-Message.frame.now) c.args.path.now (sym c.frame_takes.ensures ∙ e) marks h)
