-- How much of a comment or of a string stands at the front of these bytes. Only private contracts and proofs use this.
use Rattle.std.specs.Prelude.{ℕ, ◌+◌, Bool, ◌&&◌, ◌||◌, not, ◌==◌, List, get_or, Option, Some, None, if◌then◌else◌}
use Rattle.std.specs.Char.{is_ascii}
use Rattle.std.specs.List.{prefix_len}
use Rattle.message_tree.specs.Codes.{code}
use Rattle.lexer.specs.declared.lexemes.Letters.{Letters}
use Rattle.lexer.specs.Lexemes.{is_string_part, has_any_comment}

-- a comment goes on with each byte but a line feed and, where it has none of 128 or more, these
abbrev pub is_comment_part : Letters → ℕ → Bool
is_comment_part l byte = not (byte == code "\n") && (is_ascii byte || has_any_comment l)

abbrev pub string_inside : List ℕ → ℕ
string_inside bytes = prefix_len is_string_part bytes

-- how many bytes a string has with its quotes, where these follow the first of them
abbrev pub string_length : List ℕ → Option ℕ
string_length bytes = if get_or bytes (string_inside bytes) 0 == code "\"" then Some (string_inside bytes + 2) else None
