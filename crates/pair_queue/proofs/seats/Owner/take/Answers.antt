use Rattle.std.proofs.Common.{◌∙◌}
use Rattle.pair_queue.proofs.SeatLemmas.{seated_takes, seated_took, same_seats}
use Rattle.pair_queue.proofs.StepLemmas.{finds}
use Rattle.pair_queue.proofs.seats.Owner.take.Goals as goal

pub pop_as-requires-clause-fifo : goal.pop_as-requires-clause-fifo
pop_as-requires-clause-fifo c = λ fifo. seated_takes _ _ _ c.if-self.false c.self.invariant.seated

pub pop_as-requires-clause-empty : goal.pop_as-requires-clause-empty
pop_as-requires-clause-empty c = finds _ _

pub invariant_of-self : goal.invariant_of-self
invariant_of-self c =
    let told = c.in-Some-Number.ensures.rule in
    let is = c.in-Some-Number.field-0-is in
    record {
      flavor = c.in-Some-Number.ensures.same.0.1 ∙ c.self.invariant.flavor;
      thieves_made = same_seats _ _ _ c.in-Some-Number.i is told ∙ c.self.invariant.thieves_made;
      seated = seated_took _ _ _ c.in-Some-Number.i _ c.if-self.false c.self.invariant.seated is told;
    }

pub returns-in-Some-Number-clause-order : goal.returns-in-Some-Number-clause-order
returns-in-Some-Number-clause-order c =
    let seated = seated_took _ _ _ c.in-Some-Number.i _ c.if-self.false c.self.invariant.seated c.in-Some-Number.field-0-is c.in-Some-Number.ensures.rule in
    (seated.rising, seated.below)

pub returns-in-Some-Number-clause-count : goal.returns-in-Some-Number-clause-count
returns-in-Some-Number-clause-count c =
    let seated = seated_took _ _ _ c.in-Some-Number.i _ c.if-self.false c.self.invariant.seated c.in-Some-Number.field-0-is c.in-Some-Number.ensures.rule in
    seated.count
