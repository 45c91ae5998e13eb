use Rattle.std.proofs.Common.{[], ◌∷◌, ◌++◌, map, refl, ap, sym, ◌∙◌, subst}
use Rattle.std.specs.Prelude.{All}
use Rattle.std.proofs.lemmas.List.{map-append}
use Rattle.std.proofs.lemmas.List.Elements.{All-nil, All-cons, All-append}
use Rattle.bus_bench.specs.Seats as seats
use Rattle.bench_run.specs.Players.{IsReady}
use Rattle.bench_run.specs.declared.rounds.Part.{Part}
use Rattle.bench_run.proofs.rounds.parts_of.Goals as goal

abbrev seat_in : Part → seats.Player
seat_in p = p.player.seat

pub loop-seat-preserved : goal.loop-seat-preserved
loop-seat-preserved c =
    let part : Part = record { player = c.new.result; bench = c.args.bench; fill = c.args.fill } in
    let ready = IsReady c.args.bench.now c.args.fill in
    let old = c.loop-seat.parts.items in (
      tt,
      tt,
      ap (map seat_in) c.in_ok-push.ensures.items ∙ map-append seat_in old (part ∷ []) ∙ (λ i. c.loop-seat.invariant.2 i ++ c.new.ensures.seat i ∷ []),
      subst (All ready) (sym c.in_ok-push.ensures.items) (All-append ready old (part ∷ []) c.loop-seat.invariant.3 (All-cons ready part [] (refl, refl, c.new.ensures.stage) (All-nil ready))),
    )
