-- A text that grows by parts.
use Rattle.std.specs.Prelude.{◌≡◌, ℕ, Bool, true, false, List, [], ◌∷◌, ◌++◌, ◌/◌, ◌%◌, string_bytes}
use Rattle.std.specs.Fmt.{digit_glyph}
use Rattle.growing_text.specs.declared.texts.Text.{Text}

-- what it says
abbrev pub said : Text → List ℕ
said text = string_bytes text.text

-- memory was there for all its parts
abbrev pub is_whole : Text → Bool
is_whole text = text.is_whole

-- a text that says the same, and to which no more is added
abbrev pub cut_short : Text → Text
cut_short text = record text { is_whole = false }

-- a byte in lower-case hexadecimal
abbrev pub two_digits : ℕ → List ℕ
two_digits byte = digit_glyph false (byte / 16) ∷ digit_glyph false (byte % 16) ∷ []

-- one more part: it is said, if the text is whole; only a whole text can stay so, and any other is left as it is
pub record Grows (old : Text) (part : List ℕ) (new : Text) : Type 0 where
  pub said : is_whole new ≡ true → (is_whole old ≡ true) × (said new ≡ said old ++ part)
  pub left : is_whole old ≡ false → new ≡ old
