-- The code of a character, so that texts are spelled in characters.
use Rattle.std.specs.Prelude.{ℕ, codes}
use Prim.Native.String.{String}
use Rattle.std.specs.List.{slice_index_or}

-- the code of the one character in a text: `code "a"` is that of `a`
abbrev pub code : String → ℕ
code text = slice_index_or (codes text) 0 0
