use Rattle.std.proofs.Common.{refl}
use Rattle.bus_bench.proofs.FinishLemmas.{one_more_back}
use Rattle.bus_bench.proofs.finishing.take_back.Goals as goal

pub loop-seat-preserved : goal.loop-seat-preserved
loop-seat-preserved c =
    let i = c.loop-seat.invariant in
    (tt, tt, refl, refl, one_more_back _ c.loop-seat.yielded c.in-Some.seat _ _ c.loop-seat.ticket.me c.give_back.new.ticket.me i.4 c.give_back.ensures.same c.give_back.ensures.hand)
