use Rattle.std.proofs.Common.{◌∙◌, ◌∷◌, ◌++◌, [], refl}
use Rattle.bus_bench.proofs.OpeningLemmas.{one_more_seat, of_its_bench}
use Rattle.bus_bench.proofs.opening.hand_out_all.Goals as goal

pub loop-number-preserved : goal.loop-number-preserved
loop-number-preserved c =
    let i = c.loop-number.invariant in (
      refl,
      i.1,
      c.hand_out.ensures.host,
      c.in_ok-push.ensures.items ∙ (λ k. i.3 k ++ c.hand_out.ensures.seat k ∷ []) ∙ one_more_seat c.args.bench.now c.loop-number.number,
    )

pub returns-clause-each : goal.returns-clause-each
returns-clause-each c = of_its_bench c.args.bench.now c.loop-number.number c.loop-number.seats.items c.loop-number.invariant.3
