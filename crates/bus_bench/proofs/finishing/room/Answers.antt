use Rattle.std.proofs.Common.{◌≡◌, ◌<◌, ap, refl, subst, ℕ, List, length}
use Rattle.std.specs.List.{slice_index_or}
use Rattle.bus_bench.proofs.FinishLemmas.{next_winner}
use Rattle.bus_bench.proofs.finishing.room.Goals as goal

pub loop-number-preserved : goal.loop-number-preserved
loop-number-preserved c =
    let i = c.loop-number.invariant in
    let items : c.deref-starter-items.result.now ≡ c.args.bench.now.starters = i.2 in
    let lt : c.loop-number.number < length c.args.bench.now.starters = subst (λ (xs : List ℕ). c.loop-number.number < length xs) items c.loop-number-test.true in
    (refl, refl, items, i.3, i.4, next_winner c.args.seats.now c.args.bench.now.starters c.loop-number.won.items c.add_winner.new.won.items c.loop-number.number _ lt (ap (λ (xs : List ℕ). slice_index_or xs c.loop-number.number 0) items) c.in_ok-add_winner.ensures i.5)
