use Rattle.std.proofs.Common.{◌≡◌, ◌-◌}
use Rattle.message_tree.specs.Trees.{payload_tree}
use Rattle.brief_text.specs.Codes.{times_after}
use Rattle.brief_text.specs.Drafts.{bytes_on, tail_on, repeated_on}
use Rattle.brief_text.specs.Standing.{brief_bytes, brief_tail, draft, with_device}
use Rattle.brief_text.proofs.PathLemmas.{acked_of}
use Rattle.brief_text.proofs.boards.Board.+meaning.Given as goal

-- the last so many copies of the byte, and what follows them
abbrev pub invariant-data-loop-k : goal.invariant-data-loop-k
invariant-data-loop-k l =
    payload_tree l.payload ≡ repeated_on l.k l.bits (bytes_on (with_device (draft l.self) l.in_place) l.n (acked_of (brief_bytes l.«data»))) (tail_on (with_device (draft l.self) l.in_place) l.n (brief_tail l.refused)) (times_after (l.times - l.k) l.bits l.path)
