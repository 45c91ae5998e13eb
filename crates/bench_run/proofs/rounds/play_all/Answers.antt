use Rattle.std.proofs.Common.{◌≡◌, true, length, sym, subst, ap, ◌∙◌}
use Rattle.std.specs.Prelude.{All}
use Rattle.std.specs.List.{list_all, range_with_len}
use Rattle.bus_bench.specs.Finishing.{IsFinishFault, is_done}
use Rattle.bus_bench.specs.declared.errors.FinishFault.{FinishFault}
use Rattle.bench_run.specs.declared.players.Stage.TheVariants.{Over}
use Rattle.bench_run.specs.Players.{PlaysOn, IsFresh}
use Rattle.bench_run.proofs.PlayerLemmas.{all_fresh, ready_parts, parts_play, seats_stay, rehearsed, all_done, all_there, whole_slice}
use Rattle.bench_run.proofs.rounds.play_all.Goals as goal

pub play_in_threads-requires-after_bounds : goal.play_in_threads-requires-after_bounds
play_in_threads-requires-after_bounds g c κs _ =
    let fresh = all_fresh c.args.bench (range_with_len 0 (length c.args.bench.starters)) c.args.seats.items c.requires.seats in
    let parts = c.in_ok-parts.parts.items in
    let taken = subst (All (IsFresh c.args.bench)) (sym c.in_ok-parts.ensures.seats) fresh in
    parts_play c.args.bench c.args.fill parts (ready_parts c.args.bench c.args.fill parts taken c.in_ok-parts.ensures.each)

pub play_by_turns-requires : goal.play_by_turns-requires
play_by_turns-requires g c =
    let fresh = all_fresh c.args.bench (range_with_len 0 (length c.args.bench.starters)) c.args.seats.items c.requires.seats in
    let parts = c.in_ok-parts.parts.items in
    let taken = subst (All (IsFresh c.args.bench)) (sym c.in_ok-parts.ensures.seats) fresh in
    let ready = ready_parts c.args.bench c.args.fill parts taken c.in_ok-parts.ensures.each in
    subst (All (PlaysOn c.args.bench c.args.fill)) (sym c.as_mut_slice.ensures.value) (c.in_ok-players.ensures.each c.args.bench c.args.fill ready)

pub finish-requires-clause-seats : goal.finish-requires-clause-seats
finish-requires-clause-seats g c =
    let new = c.play_by_turns.new.players in
    let whole = whole_slice c.in_ok-players.players.len new _ (c.play_by_turns.ensures.len ∙ ap length c.as_mut_slice.ensures.value ∙ sym c.in_ok-players.players.ok.0) in
    let plays = subst (All (PlaysOn c.args.bench c.args.fill)) (sym whole) c.play_by_turns.ensures.each in
    subst (All (λ s. s.bench ≡ c.args.bench)) (sym c.in_ok-seats.ensures) (seats_stay c.args.bench c.args.fill _ plays)

pub returns-in-Ok : goal.returns-in-Ok
returns-in-Ok g c =
    let new = c.play_by_turns.new.players in
    let whole = whole_slice c.in_ok-players.players.len new _ (c.play_by_turns.ensures.len ∙ ap length c.as_mut_slice.ensures.value ∙ sym c.in_ok-players.players.ok.0) in
    let plays = subst (All (PlaysOn c.args.bench c.args.fill)) (sym whole) c.play_by_turns.ensures.each in
    rehearsed c.args.bench c.args.fill _ c.in_ok-seats.seats.items _ _ c.in_ok-seats.ensures plays c.in-Ok.ensures.played

pub unreachable-requires : goal.unreachable-requires
unreachable-requires g c =
    let new = c.play_by_turns.new.players in
    let whole = whole_slice c.in_ok-players.players.len new _ (c.play_by_turns.ensures.len ∙ ap length c.as_mut_slice.ensures.value ∙ sym c.in_ok-players.players.ok.0) in
    let many = ap length whole ∙ c.play_by_turns.ensures.len ∙ ap length c.as_mut_slice.ensures.value ∙ sym c.in_ok-players.players.ok.0 ∙ c.in_ok-players.ensures.len ∙ c.in_ok-parts.parts.ok.0 in
    subst (λ (w : FinishFault). IsFinishFault w c.args.bench c.in_ok-seats.seats.items) c.in-Missing.is c.in-Err.ensures.why
    (all_there c.args.bench c.in_ok-seats.seats.items c.args.seats.items _ c.in_ok-parts.parts.items c.requires.seats c.in_ok-parts.ensures.seats many c.in_ok-seats.ensures)

pub unreachable-requires-in-NotEnded : goal.unreachable-requires-in-NotEnded
unreachable-requires-in-NotEnded g c =
    let new = c.play_by_turns.new.players in
    let whole = whole_slice c.in_ok-players.players.len new _ (c.play_by_turns.ensures.len ∙ ap length c.as_mut_slice.ensures.value ∙ sym c.in_ok-players.players.ok.0) in
    let plays = subst (All (PlaysOn c.args.bench c.args.fill)) (sym whole) c.play_by_turns.ensures.each in
    let over = subst (All (λ p. p.stage ≡ Over)) (sym whole) c.play_by_turns.ensures.over in
    let done : list_all is_done c.in_ok-seats.seats.items ≡ true = ap (list_all is_done) c.in_ok-seats.ensures ∙ all_done c.args.bench c.args.fill _ plays over in
    let not = (subst (λ (w : FinishFault). IsFinishFault w c.args.bench c.in_ok-seats.seats.items) c.in-NotEnded.is c.in-Err.ensures.why).1 in
    cc
