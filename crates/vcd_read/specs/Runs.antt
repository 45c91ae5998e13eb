-- Tokens, told from the whole text: runs of bytes that are not white space, as long as they can be.
use Rattle.std.specs.Prelude.{◌≡◌, ℕ, true, false, List, [], ◌∷◌, ◌++◌}
use Rattle.std.specs.List.{list_all}
use Rattle.vcd_read.specs.Tokens.{Token, is_white, line_after, ends_before, has_white}
use Rattle.vcd_read.specs.Words.{is_empty}

-- the line after these bytes, which begin on this line
abbrev pub line_after_bytes : ℕ → List ℕ → ℕ
line_after_bytes line [] = line
line_after_bytes line (byte ∷ bytes) = line_after_bytes (line_after line byte) bytes

-- The bytes are white space, the first token, and what follows it: the end of the text, or white space. Then they go on
-- so. The line of a token is that after the white space before it.
abbrev pub AreRuns : ℕ → List ℕ → List Token → Type 0
AreRuns line bytes [] = list_all is_white bytes ≡ true
AreRuns line bytes (token ∷ tokens) =
    (gap : List ℕ)
    × (rest : List ℕ)
    × (bytes ≡ gap ++ (token.bytes ++ rest))
    × (list_all is_white gap ≡ true)
    × (is_empty token.bytes ≡ false)
    × (has_white token.bytes ≡ false)
    × (ends_before rest ≡ true)
    × (token.line ≡ line_after_bytes line gap)
    × AreRuns token.line rest tokens
