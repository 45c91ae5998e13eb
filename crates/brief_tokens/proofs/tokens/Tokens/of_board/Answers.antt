use Rattle.lexer.specs.Lexemes.{boards}
use Rattle.brief_tokens.proofs.TokenLemmas.{left_boards}
use Rattle.brief_tokens.proofs.tokens.Tokens.of_board.Goals as goal

pub returns-clause-tokens : goal.returns-clause-tokens
returns-clause-tokens c = left_boards c.new.result.letters _ _ _ _ c.new.ensures.letters (c.new.ensures.whole boards)
