-- What the functions that read tokens say of those that are left.
use Rattle.std.specs.Prelude.{ℕ, zero, suc, Option, Some, None}
use Rattle.lexer.specs.Lexemes.{text_end, foreign, stray}
use Rattle.lexer.specs.declared.lexemes.Letters.{Letters}
use Rattle.plan_text.specs.declared.errors.PlanError.{PlanError}
use Rattle.plan_text.specs.declared.errors.PlanError.TheVariants as errors
use Rattle.brief_tokens.specs.declared.symbols.Symbol.{Symbol}
use Rattle.brief_tokens.specs.declared.symbols.Symbol.TheVariants as symbols
use Rattle.brief_tokens.specs.declared.symbols.Token.{Token}
use Rattle.brief_tokens.specs.declared.tokens.FileNamed.{FileNamed}
use Rattle.brief_tokens.specs.declared.tokens.Tokens.{Tokens}
use Rattle.brief_tokens.specs.Heads.{Naming, names, no_more}
use Rattle.brief_tokens.specs.Tokens as spec

-- the tokens that are left
abbrev pub left : Tokens → spec.Tokens
left tokens = spec.tokens_in tokens.lexer.letters tokens.lexer.line tokens.lexer.rest.now

-- the letters of its text
abbrev pub letters_of : Tokens → Letters
letters_of tokens = tokens.lexer.letters

-- a symbol on its line, and these tokens after it
abbrev pub with_symbol : Symbol → ℕ → spec.Tokens → spec.Tokens
with_symbol (symbols.Keyword k) line rest = spec.next (spec.keyword k) line rest
with_symbol (symbols.Word w) line rest = spec.next (spec.word w.now) line rest
with_symbol (symbols.Sign s) line rest = spec.next (spec.sign s) line rest
with_symbol (symbols.Quoted q) line rest = spec.next (spec.quoted q.now) line rest
with_symbol (symbols.Span least greatest) line rest = spec.next (spec.span least greatest) line rest
with_symbol symbols.Stray line rest = spec.last stray line
with_symbol symbols.Foreign line rest = spec.last foreign line
with_symbol symbols.End line rest = spec.last text_end line

-- the token that the symbol is
abbrev pub token_of_symbol : Symbol → Option spec.Token
token_of_symbol (symbols.Keyword k) = Some (spec.keyword k)
token_of_symbol (symbols.Word w) = Some (spec.word w.now)
token_of_symbol (symbols.Sign s) = Some (spec.sign s)
token_of_symbol (symbols.Quoted q) = Some (spec.quoted q.now)
token_of_symbol (symbols.Span least greatest) = Some (spec.span least greatest)
token_of_symbol _ = None

abbrev pub with_token : Token → spec.Tokens → spec.Tokens
with_token token rest = with_symbol token.symbol token.line rest

-- the refusal of a symbol where it is not allowed
abbrev pub unexpected_symbol : Symbol → ℕ → PlanError
unexpected_symbol symbols.Foreign line = errors.NotAscii line
unexpected_symbol _ line = errors.Unexpected line

abbrev pub unexpected_at : Token → PlanError
unexpected_at token = unexpected_symbol token.symbol token.line

-- what comes next in a head, where it is no refusal, with these tokens after it
abbrev pub naming : Option FileNamed → spec.Tokens → Naming
naming (Some file) rest = names file.name.now file.line rest
naming None rest = no_more rest

-- how many tokens these are
abbrev pub token_count : spec.Tokens → ℕ
token_count (spec.next token line rest) = suc (token_count rest)
token_count (spec.last ending line) = zero
