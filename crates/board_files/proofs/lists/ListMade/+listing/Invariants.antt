use Rattle.std.proofs.Common.{ℕ, ◌+◌, ◌-◌, ◌*◌, length}
use Rattle.brief_tokens.specs.Reading.{left, token_count}
use Rattle.board_files.specs.Progress.{Passing}
use Rattle.board_files.proofs.lists.ListMade.+listing.Given as goal

abbrev pub decreases-add_file : goal.decreases-add_file
decreases-add_file g l = 5 * (64 - length l.self.now.known.items) + 2

abbrev pub decreases-add_files : goal.decreases-add_files
decreases-add_files g l = 5 * (64 - length l.self.now.known.items) + 3

abbrev pub decreases-add_head : goal.decreases-add_head
decreases-add_head g l = 5 * (64 - length l.self.now.known.items) + 4

abbrev pub decreases-add_opened : goal.decreases-add_opened
decreases-add_opened g l = 5 * (63 - length l.self.now.known.items) + 6

abbrev pub decreases-add_text : goal.decreases-add_text
decreases-add_text g l = 5 * (63 - length l.self.now.known.items) + 5

abbrev pub invariant-add_files-loop-file : goal.invariant-add_files-loop-file
invariant-add_files-loop-file g l =
    Passing g.O.Opener.files l.folder (left l.initial.tokens) l.initial.self l.initial.opener (left l.tokens) l.self l.opener

abbrev pub decreases-add_files-loop-file : goal.decreases-add_files-loop-file
decreases-add_files-loop-file g l = token_count (left l.tokens)
