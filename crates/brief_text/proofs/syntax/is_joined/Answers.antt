use Rattle.std.proofs.Common.{◌++◌, List, ℕ, codes, ap, sym, ◌∙◌}
use Rattle.brief_text.proofs.JoinLemmas.{joined, no_front, no_stroke}
use Rattle.brief_text.proofs.syntax.is_joined.Goals as goal

pub returns-in-Some-strip_prefix : goal.returns-in-Some-strip_prefix
returns-in-Some-strip_prefix c =
    let one = c.in-Some.ensures.cases in
    let other = c.in-Some-strip_prefix.ensures.cases in
    c.eq.ensures ∙ joined c.args.first.now c.args.second.now c.args.text.now c.in-Some.rest.now c.in-Some-strip_prefix.rest.now
    (ap (λ (r : List ℕ). c.args.first.now ++ r) one.2 ∙ sym one.1.1) (ap (λ (r : List ℕ). codes "_" ++ r) other.2 ∙ sym other.1.1)

pub returns-in-None-strip_prefix : goal.returns-in-None-strip_prefix
returns-in-None-strip_prefix c =
    let one = c.in-Some.ensures.cases in
    no_stroke c.args.first.now c.args.second.now c.args.text.now c.in-Some.rest.now (ap (λ (r : List ℕ). c.args.first.now ++ r) one.2 ∙ sym one.1.1) c.in-None-strip_prefix.ensures.cases

pub returns-in-None : goal.returns-in-None
returns-in-None c = no_front c.args.first.now c.args.second.now c.args.text.now c.in-None.ensures.cases
