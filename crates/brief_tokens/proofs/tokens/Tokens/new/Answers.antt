use Rattle.lexer.specs.Lexemes.{briefs}
use Rattle.brief_tokens.proofs.TokenLemmas.{left_briefs}
use Rattle.brief_tokens.proofs.tokens.Tokens.new.Goals as goal

pub returns-clause-tokens : goal.returns-clause-tokens
returns-clause-tokens c = left_briefs c.new.result.letters _ _ _ _ c.new.ensures.letters (c.new.ensures.whole briefs)
