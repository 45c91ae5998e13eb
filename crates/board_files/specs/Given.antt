-- What callers give and get, as the definitions see it.
use Rattle.std.specs.Prelude.{ℕ, List, Vec, map, Result, Ok, Err}
use Rattle.std.specs.declared.alloc.Global.{Global}
use Rattle.board_files.specs.Lists as spec
use Rattle.board_files.specs.declared.lists.GivenText.{GivenText}
use Rattle.board_files.specs.declared.lists.Listed.{Listed}
use Rattle.board_files.specs.declared.lists.Unlisted.{Unlisted}
use Rattle.board_files.specs.declared.lists.Unlisted.TheVariants as unlisted
use Rattle.board_files.specs.declared.lists.Why.{Why}
use Rattle.board_files.specs.declared.lists.Why.TheVariants as why
use Rattle.run_parts.specs.declared.errors.RunError.{RunError}

abbrev pub bytes_given : Result (Vec ℕ Global) RunError → Result (List ℕ) RunError
bytes_given (Ok bytes) = Ok bytes.items
bytes_given (Err e) = Err e

abbrev pub listed : Listed → spec.Listed
listed it = record { path = it.path.items; text = it.text.items }

abbrev pub texts_listed : List Listed → List spec.Listed
texts_listed texts = map listed texts

abbrev pub given : GivenText → spec.Given
given it = record { listed = listed it.listed; folder = it.folder.items; id = it.id }

abbrev pub all_given : List GivenText → List spec.Given
all_given texts = map given texts

-- where it stops, for this reason in this text
abbrev pub stop_of : spec.Listed → Why → spec.Stop
stop_of text (why.Refused refused) = spec.refused text refused.error
stop_of text (why.Unread line path error) = spec.unread text line path.items error

-- this holds of where it stops, but for out of memory, which may come at any text
abbrev pub StopsWhere : (spec.Stop → Type 0) → Unlisted → Type 0
StopsWhere Holds (unlisted.In text why before) = Holds (stop_of (listed text) why)
StopsWhere Holds unlisted.NoMemory = Unit {0}
