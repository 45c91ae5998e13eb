-- A seat in use may take, and stays in use.
use Rattle.std.proofs.Common.{◌≡◌, ℕ, ◌<◌, Bool, true, false, true≢false, cond, [], ◌∷◌, ◌++◌, sym, refl, ap, ◌∙◌, subst, arith}
use Rattle.std.proofs.lemmas.List.Elements.{All-push, All-nil}
use Rattle.crossbeam_deque.specs.Tasks.{Takes}
use Rattle.pair_queue.specs.declared.tickets.Ticket.{Ticket}
use Rattle.pair_queue.specs.declared.tickets.Ticket.TheVariants.{Number}
use Rattle.pair_queue.specs.declared.tickets.Hand.{Hand}
use Rattle.pair_queue.specs.Rule.{IsDispatched}
use Rattle.pair_queue.specs.Steps.{Took, cut}
use Rattle.pair_queue.specs.Hands.{IsSeated}
use Rattle.pair_queue.proofs.Logs.{rising_push}
use Rattle.pair_queue.proofs.OrderLemmas.{rising_length}
use Rattle.pair_queue.proofs.StepLemmas.{takes}

pub seated_takes : (seat : ℕ) (v : Hand) (ended : Bool) → ended ≡ false → IsSeated v ended → Takes IsDispatched seat v 1 (Took v)
seated_takes seat v ended not_yet s =
    let marks : v.ended ≡ 0 = s.marks ∙ ap (λ (b : Bool). cond b 1 0) not_yet in
    let one = s.one in
    takes seat v s.live s.own (omega arith)

took_number : (v w : Hand) (t : Ticket) (i : ℕ) → t ≡ Number i → Took v (t ∷ []) w → Took v (Number i ∷ []) w
took_number v w t i is told = subst (λ (x : Ticket). Took v (x ∷ []) w) is told

pub same_seats : (v w : Hand) (t : Ticket) (i : ℕ) → t ≡ Number i → Took v (t ∷ []) w → w.seats ≡ v.seats
same_seats v w t i is told = ap (λ (x : Hand). x.seats) (took_number v w t i is told).0

pub seated_took : (v w : Hand) (t : Ticket) (i : ℕ) (ended : Bool) → ended ≡ false → IsSeated v ended → t ≡ Number i → Took v (t ∷ []) w → IsSeated w ended
seated_took v w t i ended not_yet s is told_of =
    let told = took_number v w t i is told_of in
    let rising = rising_push v.taken i s.rising told.3 in
    let below = All-push (λ j. j < v.made) v.taken i s.below told.1 in
    subst (λ (x : Hand). IsSeated x ended) (sym told.0)
    (record {
      live = s.live;
      own = s.own;
      one = s.one;
      marks = s.marks;
      rising = rising;
      below = below;
      count = rising_length (v.taken ++ i ∷ []) v.made rising below;
      over = λ yes_. absurd (true≢false (sym yes_ ∙ not_yet));
    })

pub seated_cut : (v w : Hand) → w ≡ cut v → v.live ≡ true → IsSeated w false
seated_cut v w is live =
    subst (λ (x : Hand). IsSeated x false) (sym is)
    (record {
      live = live;
      own = refl;
      one = refl;
      marks = refl;
      rising = λ k lt. absurd (omega arith);
      below = All-nil (λ i. i < v.made);
      count = omega arith;
      over = λ e. absurd (true≢false (sym e));
    })
