-- The text of a certificate, of which each different line is held once.
use Rattle.std.specs.Prelude.{ℕ, Option, Some, None, List, [], ◌++◌, Vec, map, slice_get}
use Rattle.std.specs.List.{flat_map}
use Rattle.std.specs.declared.alloc.Global.{Global}
use Rattle.verdicts.specs.declared.texts.CertificateLines.{CertificateLines}

abbrev pub bytes_of : Option (Vec ℕ Global) → List ℕ
bytes_of (Some line) = line.items
bytes_of None = []

-- the bytes of the lines at these places
abbrev pub lines_at : List (Vec ℕ Global) → List ℕ → List (List ℕ)
lines_at lines places = map (λ place. bytes_of (slice_get lines place)) places

abbrev pub joined : List (List ℕ) → List ℕ
joined lines = flat_map (λ (line : List ℕ). line) lines

abbrev pub lines_after_head : CertificateLines → List (List ℕ)
lines_after_head it = lines_at it.distinct.items it.order.items

abbrev pub text_of : CertificateLines → List ℕ
text_of it = it.head.items ++ joined (lines_after_head it)
