use Rattle.brief_tokens.proofs.TokenLemmas.{taken}
use Rattle.brief_tokens.proofs.tokens.Tokens.next.Goals as goal

pub returns-clause-token : goal.returns-clause-token
returns-clause-token c = taken c.args.self.now.lexer.letters c.next.new.self.letters _ _ _ _ c.next.result c.of.result c.next.ensures.lexemes c.of.ensures c.args.self.now.is_brief c.next.ensures.letters
