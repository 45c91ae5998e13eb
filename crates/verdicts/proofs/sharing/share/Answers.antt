use Rattle.std.proofs.Common.{◌≡◌, ℕ, Ok, length, get_or, sym, subst, ap, ◌∙◌, arith}
use Rattle.verdicts.proofs.Gathered.{as_many, at_place}
use Rattle.verdicts.proofs.sharing.share.Given as given
use Rattle.verdicts.proofs.sharing.share.Goals as goal

pub returns-clause-len : goal.returns-clause-len
returns-clause-len g c =
    let gives : ℕ → g.row.X.Denot → Type 0 = λ i x. given.F-post g c.args.f.now i (Ok x) in
    let v = c.in_ok-values.values in
    let many : length v.items ≡ c.args.n = ap length c.in_ok-values.ensures ∙ as_many gives c.args.n c.in_ok-found.found.items c.in_ok-found.ensures in
    omega (arith, v.ok.0)

pub returns-clause-each : goal.returns-clause-each
returns-clause-each g c i d lt =
    let gives : ℕ → g.row.X.Denot → Type 0 = λ i x. given.F-post g c.args.f.now i (Ok x) in
    subst (λ xs. gives i (get_or xs i d)) (sym c.in_ok-values.ensures) (at_place gives c.args.n c.in_ok-found.found.items c.in_ok-found.ensures i d lt)
