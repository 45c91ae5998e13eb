use Rattle.std.proofs.Common.{◌≡◌, arith, get_or}
use Rattle.plan_text.proofs.FrontLemmas.{data_byte_here}
use Rattle.plan_text.proofs.tokens.Tokens.data_byte.Goals as goal

pub returns : goal.returns
returns c =
    let whole = c.args.self.now.lexer.rest.now in
    let first : get_or whole 0 0 ≡ 32 = omega arith in
    let second : get_or c.in_ok-word.rest.now 0 0 ≡ 32 = omega arith in
    let split = c.in_ok-word.ensures.cases in
    data_byte_here c.args.self.now.lexer.letters c.args.self.now.lexer.line c.in_ok-bits.bits whole c.in_ok-word.word.now c.in_ok-word.rest.now c.in-32.len_at_least first split.1 split.2 c.in-32-rest.len_at_least second c.in_ok-bits.ensures.bits
