use Rattle.std.proofs.Common.{rules, ◌≡◌, ◌∙◌, sym, refl, subst, false, List}
use Rattle.std.specs.List.{list_any}
use Rattle.std.proofs.lemmas.List.{take_all}
use Rattle.std.proofs.lemmas.Option.{slice_get_read}
use Rattle.bus_bench.specs.Finishing.{is_ended}
use Rattle.bus_bench.specs.Seats.{Player}
use Rattle.bus_bench.specs.declared.seats.Standing.TheVariants.{Ended}
use Rattle.bus_bench.proofs.FinishLemmas.{none_more, seen_at, end_slot, nobody_ended}
use Rattle.bus_bench.proofs.finishing.run_length.Goals as goal

pub returns-then-eq : goal.returns-then-eq
returns-then-eq c =
    let i = c.seat.inside in
    let ended : i.standing ≡ Ended = search rules in
    let s = end_slot i.ticket.table_id i.ticket.me i.number i.place i.own i.slot i.live i.standing c.seat-item.result c.seat.invariant ended c.seat.view_is in
    seen_at c.args.seats.now c.loop-seat.seat-index i.slot c.seat-item.result (slice_get_read c.args.seats.now _ c.loop-seat.seat-index c.seat-item.result refl c.loop-seat-test.true c.seat-item.is) s.0 s.1 s.2

pub loop-seat-preserved : goal.loop-seat-preserved
loop-seat-preserved c =
    let i = c.seat.inside in
    let other : is_ended i.standing ≡ false = search rules in
    none_more c.args.seats.now c.loop-seat.seat-index c.seat-item.result (slice_get_read c.args.seats.now _ c.loop-seat.seat-index c.seat-item.result refl c.loop-seat-test.true c.seat-item.is) ((λ j. is_ended (sym c.seat.view_is j).standing) ∙ other) c.loop-seat.invariant

pub returns : goal.returns
returns c = nobody_ended c.args.seats.now (subst (λ (ss : List Player). list_any (λ t. is_ended t.standing) ss ≡ false) (take_all c.loop-seat.seat-index c.args.seats.now c.loop-seat-test.false) c.loop-seat.invariant)
