use Rattle.std.proofs.Common.{◌≡◌, suc, ◌-◌, ℕ, take, sym, subst, arith}
use Rattle.arbitration.specs.declared.beginnings.Beginning.{Beginning}
use Rattle.arbitration.specs.Ways.{IsBeginning}
use Rattle.arbitration.proofs.rows.Row.beginning.Goals as goal

pub returns-then-count-eq0 : goal.returns-then-count-eq0
returns-then-count-eq0 c ss h = let e = c.if-count-eq0.true in rw e c.none.ensures

pub returns : goal.returns
returns c ss h =
    let n = c.args.count - 1 in
    let d = c.index.result.now in
    let e : suc n ≡ c.args.count = omega (arith, c.if-count-eq0.false) in
    let begun = subst (λ (b : Beginning). IsBeginning (take (suc n) ss) (take (suc n) ss) b) (sym c.index.ensures) (h.1 n d (omega (arith, c.requires, c.if-count-eq0.false))) in
    subst (λ (k : ℕ). IsBeginning (take k ss) (take k ss) d) e begun
