use Rattle.std.proofs.Common.{◌≡◌, ◌<◌, arith}
use Rattle.places.proofs.PartLemmas.{incoming_hears, incoming_acknowledges}
use Rattle.places.proofs.parts.Incoming.offered.Goals as goal

pub returns-then-self-eq0-clause-items : goal.returns-then-self-eq0-clause-items
returns-then-self-eq0-clause-items c = λ x.
    let none_left : c.args.self.now.left ≡ 0 = omega arith in
    incoming_acknowledges c.args.self.now c.acknowledge.result x none_left c.acknowledge.ensures.more c.acknowledge.ensures.last

pub returns-else-self-eq0-clause-items : goal.returns-else-self-eq0-clause-items
returns-else-self-eq0-clause-items c = λ x.
    let some_left : 0 < c.args.self.now.left = omega arith in
    incoming_hears c.args.self.now x some_left
