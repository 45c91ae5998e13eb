use Rattle.std.proofs.Common.{◌∙◌, sym, subst, length, List}
use Rattle.bus_bench.specs.Finishing.{IsRunLength, HasBack}
use Rattle.bus_bench.specs.Seats.{BenchName, Player}
use Rattle.bus_bench.specs.Tickets.{setup_of}
use Rattle.bus_bench.proofs.FinishLemmas.{as_many_back, runs_are, finished, of_bench, host_game_valid}
use Rattle.bus_bench.proofs.finishing.read_all.Goals as goal

pub read_wire-requires-clause-all : goal.read_wire-requires-clause-all
read_wire-requires-clause-all c =
    let h = c.take_back.ensures in
    as_many_back c.take_back.new.ticket.me.0.back c.args.seats.items h.back ∙ c.requires.all ∙ (λ i. length (sym c.bench.view_is i).starters) ∙ (λ i. length (h.named i).starters)

pub read_wire-requires-clause-run : goal.read_wire-requires-clause-run
read_wire-requires-clause-run c =
    let run : IsRunLength c.args.seats.items c.run_length-count.result = subst (λ (xs : List Player). IsRunLength xs c.run_length-count.result) c.deref.ensures.value c.run_length-count.ensures in
    (run.0, runs_are c.take_back.new.ticket.me.0 c.args.seats.items c.run_length-count.result c.take_back.ensures.back c.requires.done run)

pub returns : goal.returns
returns c =
    let t = c.take_back.new.ticket in
    let w = c.bench.inside.wire.shared in
    let back = subst (λ (n : BenchName). HasBack n c.args.seats.items t.table_id t.me) c.bench.view_is c.take_back.ensures in
    let valid = host_game_valid t.table_id w.table_id w.key (setup_of w.key c.bench.inside.terms) t.me c.take_back.ensures.named c.bench.invariant in
    finished c.args.bench c.args.seats.items t.table_id t.me c.read_wire.new.items.items back (of_bench c.args.bench c.args.seats.items c.requires.seats) c.requires.done valid c.read_wire.ensures c.args.played.won.items c.requires.won
