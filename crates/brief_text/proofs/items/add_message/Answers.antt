use Rattle.std.proofs.Common.{◌≡◌, List, map, sym, subst, arith}
use Rattle.std.specs.Prelude.{OnOk}
use Rattle.plan_core.specs.NameBytes.{name_bytes}
use Rattle.plan_core.specs.declared.names.Name.{Name}
use Rattle.brief_text.specs.Drafts.{with_made}
use Rattle.brief_text.specs.Standing.{draft, brief_frame}
use Rattle.brief_text.proofs.MessageLemmas.{first_removed}
use Rattle.brief_text.proofs.items.add_message.Goals as goal

pub returns-in-len1-up : goal.returns-in-len1-up
returns-in-len1-up c =
    let whole = first_removed c.args.groups.now c.group-item.result (omega (arith, c.in-len1-up.len_at_least)) c.group-item.is in
    subst (λ (groups : List Name). OnOk c.add_grouped.result (draft c.add_grouped.new.self ≡ with_made (draft c.args.board.now) (name_bytes c.args.named.name) c.args.range (brief_frame c.args.frames.now) (map name_bytes groups))) (sym whole) c.add_grouped.ensures
