use Rattle.std.proofs.Common.{◌∙◌, sym, ap}
use Rattle.crossbeam_deque.specs.Handles.{worker_view}
use Rattle.pair_queue.proofs.StepLemmas.{cuts}
use Rattle.pair_queue.proofs.SeatLemmas.{seated_cut}
use Rattle.pair_queue.proofs.open.thief.Goals as goal

pub another-pass-requires : goal.another-pass-requires
another-pass-requires c =
    let known = c.requires.seating.known in
    cuts _ _ known.live c.requires.parts known.none_ended

pub invariant_of-result : goal.invariant_of-result
invariant_of-result c =
    let same = c.in_ok-stealer.ensures in
    let of = c.another-pass.ensures.same.2 in
    record {
      flavor = same.1 ∙ c.requires.seating.flavor;
      pass = (of.0 ∙ sym (ap (λ d. d.0) same.0), of.1 ∙ sym (ap (λ d. d.1) same.0), of.2, of.3);
      seated = seated_cut (worker_view c.args.deque.now) _ c.another-pass.ensures.rule.1 c.requires.seating.known.live;
    }
