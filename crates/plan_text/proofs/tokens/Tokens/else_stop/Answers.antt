use Rattle.std.proofs.Common.{◌≡◌, ◌++◌, ◌∙◌, ap, refl, List, ℕ, Some, arith, get_or, codes}
use Rattle.std.proofs.lemmas.Slice.Eq.{strip_prefix_is}
use Rattle.std.proofs.lemmas.Bool.Decides.{Decides-eqb}
use Rattle.plan_text.proofs.FrontLemmas.{else_stop_here}
use Rattle.plan_text.proofs.tokens.Tokens.else_stop.Goals as goal

pub returns-clause-taken : goal.returns-clause-taken
returns-clause-taken c = λ _.
    let whole = c.args.self.now.lexer.rest.now in
    let rest = c.in-Some.rest.now in
    let blank : get_or rest 0 0 ≡ 32 = omega arith in
    let stripped = strip_prefix_is Decides-eqb whole c.as_slice.result.now (Some c.in-Some.rest) c.in-Some.ensures.cases in
    let front : whole ≡ codes " else stop" ++ rest = stripped ∙ ap (λ (l : List ℕ). l ++ rest) c.as_slice.ensures in
    (_, (_, else_stop_here c.args.self.now.lexer.letters c.args.self.now.lexer.line whole rest front c.in-32.len_at_least blank), (_, refl))
