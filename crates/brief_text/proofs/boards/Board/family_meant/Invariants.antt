use Rattle.std.proofs.Common.{◌≡◌, map, length}
use Rattle.plan_core.specs.NameBytes.{name_bytes}
use Rattle.brief_text.specs.Drafts.{lengths, member_meant, family_meant}
use Rattle.brief_text.specs.Meanings.{message_of}
use Rattle.brief_text.specs.Standing.{draft, with_device, brief_frame}
use Rattle.brief_text.proofs.LoopLemmas.{with_rest}
use Rattle.brief_text.proofs.boards.Board.family_meant.Given as goal

abbrev pub invariant-loop-k : goal.invariant-loop-k
invariant-loop-k l =
    with_rest (member_meant (with_device (draft l.self) l.in_place) (name_bytes l.name) (brief_frame l.frames)) l.range.least (length (lengths l.range)) (map message_of l.messages.items) l.k
    ≡ family_meant (with_device (draft l.self) l.in_place) (name_bytes l.name) l.range (brief_frame l.frames)
