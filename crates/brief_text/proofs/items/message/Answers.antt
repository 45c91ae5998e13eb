use Rattle.std.proofs.Common.{sym, ◌∙◌}
use Rattle.plan_core.specs.NameBytes.{name_bytes}
use Rattle.brief_text.specs.Standing.{draft}
use Rattle.brief_text.proofs.BoardLemmas.{no_family, for_any}
use Rattle.brief_text.proofs.items.message.Goals as goal

pub add_message-requires : goal.add_message-requires
add_message-requires c = for_any c.message_end.new.self.range (no_family (draft c.args.board.now) (name_bytes c.in_ok-named.named.name) (sym c.message_refusal.ensures ∙ c.in_ok-allowed.ensures.allowed))
