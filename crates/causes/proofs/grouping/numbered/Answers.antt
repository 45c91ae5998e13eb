use Rattle.indexmap.specs.IndexSet.{keys}
use Rattle.causes.proofs.GroupLemmas.{order_within, all_known}
use Rattle.causes.proofs.grouping.numbered.Goals as goal

pub firsts-requires : goal.firsts-requires
firsts-requires c =
    let o = c.requires in
    order_within c.args.causes.now o.wires c.args.order.now o.whole o.sorted

pub numbers-requires : goal.numbers-requires
numbers-requires c =
    let o = c.requires in
    all_known c.args.causes.now o.wires c.args.order.now (keys c.in_ok-known.known) c.in_ok-known.places.items o.whole o.sorted c.in_ok-known.ensures

pub returns : goal.returns
returns c = (keys c.in_ok-known.known, c.in_ok-known.ensures, c.in_ok-numbers.ensures)
