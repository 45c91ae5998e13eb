use Rattle.std.proofs.Common.{ap, ◌∙◌}
use Rattle.plan_core.specs.NameBytes.{name_bytes}
use Rattle.brief_text.specs.Meanings.{is_twice}
use Rattle.brief_text.specs.Standing.{draft}
use Rattle.brief_text.proofs.BoardLemmas.{twice_is_message}
use Rattle.brief_text.proofs.boards.Board.is_message.Goals as goal

pub returns : goal.returns
returns c = c.is_twice.ensures ∙ ap is_twice c.message_refusal.ensures ∙ twice_is_message (draft c.args.self.now) (name_bytes c.args.name.now)
