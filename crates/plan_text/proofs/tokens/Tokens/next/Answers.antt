use Rattle.std.proofs.Common.{ap, sym, ◌∙◌}
use Rattle.lexer.specs.Lexemes.{later}
use Rattle.lexer.specs.Reading.{alphabet}
use Rattle.lexer.specs.Reading as lexemes
use Rattle.lexer.proofs.LexemeLemmas.{letters_of_alphabet, later_alphabet}
use Rattle.plan_text.specs.Reading.{with_token, left_of}
use Rattle.plan_text.specs.Tokens.{tokens_from, tokens_of}
use Rattle.plan_text.proofs.tokens.Tokens.next.Goals as goal

pub returns-clause-tokens : goal.returns-clause-tokens
unfolding tokens_of
returns-clause-tokens c = λ a now. ap tokens_from (c.next.ensures.lexemes a now) ∙ c.of.ensures (lexemes.left_of (later a) c.next.new.self)

pub returns-clause-left : goal.returns-clause-left
returns-clause-left c =
    let l = c.args.self.now.lexer.letters in
    let same = c.next.ensures.letters in
    returns-clause-tokens c (alphabet l) (letters_of_alphabet l) ∙ ap (λ a. with_token c.of.result (left_of a record { lexer = c.next.new.self })) (later_alphabet l ∙ ap alphabet (sym same))
