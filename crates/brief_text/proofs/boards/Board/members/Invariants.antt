use Rattle.std.proofs.Common.{◌≡◌, map, length}
use Rattle.plan_core.specs.NameBytes.{name_bytes}
use Rattle.brief_text.specs.Drafts.{lengths, member_name, members}
use Rattle.brief_text.proofs.LoopLemmas.{with_rest}
use Rattle.brief_text.proofs.boards.Board.members.Given as goal

abbrev pub invariant-loop-k : goal.invariant-loop-k
invariant-loop-k l =
    with_rest (member_name (name_bytes l.name)) l.range.least (length (lengths l.range)) (map name_bytes l.members.items) l.k ≡ members (name_bytes l.name) l.range
