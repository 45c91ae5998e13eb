-- What a seat knows to be taken stands in the seats' lists.
use Rattle.std.proofs.Common.{◌≡◌, ◌≢◌, ℕ, zero, suc, ◌+◌, ◌<◌, ◌≤◌, Bool, cond, eq-eqb, ne_eqb, List, length, refl, ap, ◌∙◌, arith}
use native.Mathlib.Decide.{dec_le}
use Rattle.std.specs.List.{range_with_len}
use Rattle.std.proofs.lemmas.List.FromFn.{length-range_with_len}
use Rattle.pair_queue.specs.declared.tickets.Ticket.{Ticket}
use Rattle.pair_queue.specs.declared.tickets.Hand.{Hand}
use Rattle.pair_queue.specs.Dispatch.{taken}
use Rattle.pair_queue.specs.Rule.{times, AreTaken, IsDispatched}
use Rattle.pair_queue.proofs.Logs.{handed_out}
use Rattle.pair_queue.proofs.ReturnLemmas.{times_cons}
use Rattle.pair_queue.proofs.Views.{At}

-- what stands first counts once if it is the number, and else not at all
same_first : (a n i : ℕ) → a ≡ i → times i (range_with_len a (suc n)) ≡ 1 + times i (range_with_len (a + 1) n)
same_first a n i same = times_cons i a (range_with_len (a + 1) n) ∙ ap (λ (b : Bool). cond b 1 0 + times i (range_with_len (a + 1) n)) (eq-eqb a i same)

other_first : (a n i : ℕ) → a ≢ i → times i (range_with_len a (suc n)) ≡ 0 + times i (range_with_len (a + 1) n)
other_first a n i other = times_cons i a (range_with_len (a + 1) n) ∙ ap (λ (b : Bool). cond b 1 0 + times i (range_with_len (a + 1) n)) (ne_eqb a i other)

not_before : (a n i : ℕ) → i < a → times i (range_with_len a n) ≡ 0
not_before a zero i less = refl
not_before a (suc n) i less =
    let first = other_first a n i (λ e. absurd (omega arith)) in
    let rest = not_before (a + 1) n i (omega arith) in
    omega arith

-- each number of a run of numbers stands in it once
once_in_range : (a n i : ℕ) → a ≤ i → i < a + n → times i (range_with_len a n) ≡ 1
once_in_range a zero i from below = absurd (omega arith)
once_in_range a (suc n) i from below = cases (dec_le i a) (λ after. once_in_range (a + 1) n i after (omega arith))
  where
    cases : Dec (i ≤ a) → (a + 1 ≤ i → times i (range_with_len (a + 1) n) ≡ 1) → times i (range_with_len a (suc n)) ≡ 1
    cases (yes d) later =
        let first = same_first a n i (omega arith) in
        let rest = not_before (a + 1) n i (omega arith) in
        omega arith
    cases (no d) later =
        let first = other_first a n i (λ e. absurd (omega arith)) in
        let rest = later (omega arith) in
        omega arith

pub known_taken : (items : List Ticket) (views : List Hand) (seat : ℕ) (v : Hand) → IsDispatched items views → At views seat v → AreTaken v.past views
known_taken items views seat v h at i below =
    let out = handed_out h.log h.left h.n h.played.legal h.played.pushes in
    let so_far : length (taken h.log) ≡ out.k = ap length out.takes ∙ length-range_with_len 0 out.k in
    let past = (h.fits seat v at).past in
    h.takes i ∙ ap (times i) out.takes ∙ once_in_range 0 out.k i (omega arith) (omega arith)
