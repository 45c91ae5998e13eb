use Rattle.std.proofs.Common.{◌≡◌, take, arith, subst, List}
use Rattle.std.proofs.lemmas.List.{take_all}
use Rattle.arbitration.specs.Ways.{Step, IsBeginning}
use Rattle.arbitration.proofs.CommonBytes.{same_together}
use Rattle.arbitration.proofs.RowLemmas.{longer_beginnings}
use Rattle.arbitration.proofs.rows.Row.push.Goals as goal

pub returns-clause-begun : goal.returns-clause-begun
returns-clause-begun c ss s are here =
    let all : take c.len.result ss ≡ ss = take_all c.len.result ss (omega (arith, are.0, c.requires.begun.1.0, c.requires.begun.2)) in
    let begun = subst (λ (us : List Step). IsBeginning us us c.beginning.result) all (c.beginning.ensures ss are) in
    longer_beginnings ss s c.args.self.now.beginnings.items c.push-2.new.self.items c.and-longer.result are (c.and-longer.ensures ss ss s s begun (same_together s) here) c.in_ok-push-2.ensures.items
