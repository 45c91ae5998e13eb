use Rattle.std.proofs.Common.{[], length, drop}
use Rattle.board_files.specs.Given.{all_given, texts_listed}
use Rattle.board_files.specs.Progress.{PastGiven}
use Rattle.board_files.proofs.lists.list_texts.Given as goal

abbrev pub invariant-loop-text : goal.invariant-loop-text
invariant-loop-text g l =
    PastGiven g.O.Opener.files (all_given l.fn.given.items) [] l.initial.opener (texts_listed l.list.texts.items) (all_given (drop (length l.yielded) l.fn.given.items)) l.list.known.items l.opener
