-- What functions of the layout say of heads and of lexemes. Only private contracts and proofs use this.
use Rattle.std.specs.Prelude.{ℕ, suc, Option, Some, None, Result, Ok, Err}
use Rattle.lexer.specs.Lexemes.{Lexemes, next, last}
use Rattle.lexer.specs.declared.lexemes.Letters.{Letters}
use Rattle.lexer.specs.declared.lexemes.Letters.TheVariants.{Brief, Board}
use Rattle.lexer.specs.declared.lexemes.Lexeme.{Lexeme}
use Rattle.lexer.specs.declared.lexemes.Symbol.{Symbol}
use Rattle.lexer.specs.declared.lexemes.Symbol.TheVariants as symbols
use Rattle.plan_text.specs.declared.errors.PlanError.{PlanError}
use Rattle.layout.specs.declared.heads.Head.{Head}
use Rattle.layout.specs.declared.heads.Head.TheVariants as heads
use Rattle.layout.specs.declared.heads.Unread.{Unread}

-- what a head says of the letters
abbrev pub head_said : Head → Option (Result Letters PlanError)
head_said heads.Brief = Some (Ok Brief)
head_said heads.Board = Some (Ok Board)
head_said (heads.Unread unread) = Some (Err unread.refused.error)
head_said heads.Other = None

abbrev pub IsStrange : Symbol → Type 0
IsStrange symbols.Stray = Unit {0}
IsStrange symbols.Foreign = Unit {0}
IsStrange symbol = ⊥

-- it belongs to no token
abbrev pub IsStranger : Lexeme → Type 0
IsStranger lexeme = IsStrange lexeme.symbol

-- the refusal, if there is one
abbrev pub errors_said : Option Unread → Option PlanError
errors_said (Some unread) = Some unread.refused.error
errors_said None = None

-- how many lexemes there are
abbrev pub size : Lexemes → ℕ
size (next lexeme line rest) = suc (size rest)
size (last ending line) = 0
