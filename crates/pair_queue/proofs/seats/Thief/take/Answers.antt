use Rattle.std.proofs.Common.{◌∙◌, ap, min}
use Rattle.pair_queue.proofs.SeatLemmas.{seated_takes, seated_took}
use Rattle.pair_queue.proofs.StepLemmas.{finds_few}
use Rattle.pair_queue.proofs.seats.Thief.take.Goals as goal

pub steal_as-requires-clause-takes : goal.steal_as-requires-clause-takes
steal_as-requires-clause-takes c = seated_takes _ _ _ c.if-self.false c.self.invariant.seated

pub steal_as-requires-clause-empty : goal.steal_as-requires-clause-empty
steal_as-requires-clause-empty c = finds_few _ _ _ (ap (λ f. min f 1) c.self.invariant.flavor)

pub invariant_of-self : goal.invariant_of-self
invariant_of-self c =
    let same = c.in-Success-Number.ensures.same in
    let was = c.self.invariant.pass in
    record {
      flavor = c.self.invariant.flavor;
      pass = (same.0 ∙ was.0, same.1 ∙ was.1, same.3, same.4);
      seated = seated_took _ _ _ c.in-Success-Number.i _ c.if-self.false c.self.invariant.seated c.in-Success-Number.field-0-is c.in-Success-Number.ensures.rule;
    }

pub returns-in-Success-Number-clause-count : goal.returns-in-Success-Number-clause-count
returns-in-Success-Number-clause-count c =
    let seated = seated_took _ _ _ c.in-Success-Number.i _ c.if-self.false c.self.invariant.seated c.in-Success-Number.field-0-is c.in-Success-Number.ensures.rule in
    seated.count
