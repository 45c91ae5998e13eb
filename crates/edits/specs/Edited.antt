-- What stands in texts after edits of them, which are in the order of the texts, and of which none overlaps another.
use Rattle.std.specs.Prelude.{ℕ, ◌+◌, ◌&&◌, ◌==◌, nat_le, List, [], ◌∷◌, ◌++◌, length, map, if◌then◌else◌, Vec}
use Rattle.std.specs.List.{slice_range}
use Rattle.std.specs.declared.alloc.Global.{Global}
use Rattle.std.specs.String.{string_bytes}
use Rattle.edits.specs.declared.replacing.Edit.{Edit}

abbrev pub bytes_of : List (Vec ℕ Global) → List (List ℕ)
bytes_of texts = map (λ (text : Vec ℕ Global). text.items) texts

-- the bytes of a text from so many on, up to so many; none where it has not these
abbrev pub between : List ℕ → ℕ → ℕ → List ℕ
between text start end = if nat_le start end && nat_le end (length text) then slice_range text start end else []

-- the text with this number from so many bytes on: in the place of the bytes of each edit that is of it stands that of the edit
abbrev pub edited_from : ℕ → List ℕ → ℕ → List Edit → List ℕ
edited_from number text kept [] = between text kept (length text)
edited_from number text kept (edit ∷ edits) =
    if edit.span.file == number then between text kept edit.span.start ++ string_bytes edit.text ++ edited_from number text edit.span.end edits
    else edited_from number text kept edits

-- texts, of which the first has this number
abbrev pub edited_texts_from : ℕ → List (List ℕ) → List Edit → List (List ℕ)
edited_texts_from number [] edits = []
edited_texts_from number (text ∷ texts) edits = edited_from number text 0 edits ∷ edited_texts_from (number + 1) texts edits

-- the texts that come of these, which are numbered from 0 on
abbrev pub edited_texts : List (List ℕ) → List Edit → List (List ℕ)
edited_texts texts edits = edited_texts_from 0 texts edits
