use Rattle.std.proofs.Common.{ap}
use Rattle.plan_text.specs.Tokens.{tokens_from, tokens_of}
use Rattle.plan_text.proofs.tokens.Tokens.new.Goals as goal

pub returns-clause-whole : goal.returns-clause-whole
unfolding tokens_of
returns-clause-whole c = λ a. ap tokens_from (c.new.ensures.whole a)
