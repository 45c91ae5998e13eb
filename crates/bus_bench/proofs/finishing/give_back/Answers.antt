use Rattle.bus_bench.specs.Tickets.{setup_of}
use Rattle.bus_bench.proofs.FinishLemmas.{join_allowed, given_back}
use Rattle.bus_bench.proofs.finishing.give_back.Goals as goal

pub join_seat-requires : goal.join_seat-requires
join_seat-requires c =
    let i = c.seat.inside in
    let w = c.args.wire.now.shared in
    join_allowed w.table_id c.args.ticket.now.table_id i.ticket.table_id w.key (setup_of w.key c.args.terms.now) c.args.ticket.now.id i.ticket.id c.args.ticket.now.me i.ticket.me i.number i.place i.own i.slot i.live i.standing c.args.seat c.requires.bench c.requires.host c.requires.named c.seat.invariant c.seat.view_is c.requires.seat

pub returns-clause-hand : goal.returns-clause-hand
returns-clause-hand c =
    let i = c.seat.inside in
    given_back i.ticket.table_id c.args.ticket.now.me _ i.ticket.me i.number i.place i.own i.slot i.live i.standing c.args.seat c.seat.invariant c.seat.view_is c.join_seat.ensures.2
