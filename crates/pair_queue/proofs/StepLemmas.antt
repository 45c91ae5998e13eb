-- Each kind of step keeps the rule, however many seats there are, and tells what `Steps` says.
use Rattle.std.proofs.Common.{◌≡◌, ◌≢◌, ℕ, zero, suc, ◌+◌, ◌<◌, ◌≤◌, true, true≢false, cond, eqb, eq-eqb, ne_eqb, List, [], ◌∷◌, ◌++◌, length, replicate, All, set, sym, refl, ap, ◌∙◌, subst, ⊎_elim, arith}
use native.Mathlib.Decide.{dec_le}
use Rattle.std.specs.List.{range_with_len}
use Rattle.std.proofs.lemmas.List.{append-nil, length-append}
use Rattle.std.proofs.lemmas.List.FromFn.{length-range_with_len}
use Rattle.std.proofs.lemmas.List.Sums.{sum_by-append}
use Rattle.std.proofs.Math.ListN.{length-set}
use Rattle.crossbeam_deque.specs.Tasks.{Pushes, Takes, Finds, FindsFew, Forks, Merges, Learns}
use Rattle.crossbeam_deque.proofs.Lists.{at_set}
use Rattle.pair_queue.specs.declared.tickets.Ticket.{Ticket}
use Rattle.pair_queue.specs.declared.tickets.Ticket.TheVariants.{Number, End}
use Rattle.pair_queue.specs.declared.tickets.Hand.{Hand}
use Rattle.pair_queue.specs.Dispatch.{Event, Push, Take, Empty, pushed, taken, taken_by, first_numbers, IsPushed}
use Rattle.pair_queue.specs.Rule.{tickets, total, times, parts_of, ended_of, Fits, IsDispatched}
use Rattle.pair_queue.specs.Steps.{opening, spent, Pushed, Took, kept, cut, joined, TookAll}
use Rattle.pair_queue.proofs.Logs.{taken_then_left, handed_out}
use Rattle.pair_queue.proofs.Views.{At, total_set, total_push, at_below, at_push, only, at_only, fewer_ended, everything}

-- Tickets

number_last : (left : List ℕ) (i : ℕ) → tickets left 0 ++ Number i ∷ [] ≡ tickets (left ++ i ∷ []) 0
number_last [] i = refl
number_last (j ∷ left) i = ap (λ (xs : List Ticket). Number j ∷ xs) (number_last left i)

ends_last : (ends : ℕ) → replicate ends End ++ End ∷ [] ≡ replicate (suc ends) End
ends_last zero = refl
ends_last (suc ends) = ap (λ (xs : List Ticket). End ∷ xs) (ends_last ends)

end_last : (left : List ℕ) (ends : ℕ) → tickets left ends ++ End ∷ [] ≡ tickets left (suc ends)
end_last [] ends = ends_last ends
end_last (j ∷ left) ends = ap (λ (xs : List Ticket). Number j ∷ xs) (end_last left ends)

front_number : (i : ℕ) (items : List Ticket) (left : List ℕ) (ends : ℕ) → Number i ∷ items ≡ tickets left ends → (rest : List ℕ) × (left ≡ i ∷ rest) × (items ≡ tickets rest ends)
front_number i items [] zero e = absurd cc
front_number i items [] (suc ends) e = absurd cc
front_number i items (j ∷ left) ends e = (left, cc, cc)

front_end : (items : List Ticket) (left : List ℕ) (ends : ℕ) → End ∷ items ≡ tickets left ends → (less : ℕ) × (ends ≡ suc less) × (left ≡ []) × (items ≡ tickets [] less)
front_end items [] zero e = absurd cc
front_end items [] (suc less) e = (less, refl, refl, cc)
front_end items (j ∷ left) ends e = absurd cc

none_left : (left : List ℕ) (ends : ℕ) → [] ≡ tickets left ends → ends ≡ 0
none_left [] zero e = refl
none_left [] (suc ends) e = absurd cc
none_left (j ∷ left) ends e = absurd cc

next_number : (a n : ℕ) → range_with_len a n ++ (a + n) ∷ [] ≡ range_with_len a (suc n)
next_number a zero = let s : a + 0 ≡ a = omega arith in cc
next_number a (suc n) = let s : a + suc n ≡ a + 1 + n = omega arith in let e = next_number (a + 1) n in cc

-- Opening

pub begins : IsDispatched [] (opening ∷ [])
begins = record {
  n = 0;
  log = [];
  left = [];
  ends = 0;
  holds = refl;
  played = record { legal = refl; pushes = refl };
  takes = λ i. refl;
  marks = refl;
  fits = at_only (Fits 0 [] [] (opening ∷ [])) opening (record { alone = λ _. refl; made = λ _. refl; seats = λ _. refl; ended = omega arith; idle = λ _. refl; last = λ h. absurd (omega arith); own = λ _. refl; past = omega arith });
  later = λ seat far. refl;
}

push_number : (items : List Ticket) (v : Hand) (i : ℕ) → v.live ≡ true → v.parts ≡ 0 → v.made ≡ i → IsDispatched items (v ∷ []) → IsDispatched (items ++ Number i ∷ []) (record v { made = v.made + 1 } ∷ [])
push_number items v i live bare next h =
    let w : Hand = record v { made = v.made + 1 } in
    let fit = h.fits 0 v refl in
    let made : v.made ≡ h.n = fit.made live in
    let ended = fit.ended in
    let marks : parts_of (v ∷ []) ≡ ended_of (v ∷ []) + h.ends = h.marks in
    let none : h.ends ≡ 0 = omega arith in
    let held : items ≡ tickets h.left 0 = h.holds ∙ ap (tickets h.left) none in
    let before : pushed h.log ++ i ∷ [] ≡ range_with_len 0 h.n ++ (0 + h.n) ∷ [] = let n : i ≡ 0 + h.n = omega arith in let p : pushed h.log ≡ range_with_len 0 h.n = h.played.pushes in cc in
    record {
      n = suc h.n;
      log = Push i ∷ h.log;
      left = h.left ++ i ∷ [];
      ends = 0;
      holds = ap (λ (xs : List Ticket). xs ++ Number i ∷ []) held ∙ number_last h.left i;
      played = record { legal = (h.left, h.played.legal, refl); pushes = before ∙ next_number 0 h.n };
      takes = h.takes;
      marks = omega arith;
      fits = at_only (Fits (suc h.n) (Push i ∷ h.log) (h.left ++ i ∷ []) (w ∷ [])) w
          (record { alone = λ _. refl; made = λ _. omega arith; seats = fit.seats; ended = fit.ended; idle = fit.idle; last = λ some_ended. absurd (omega arith); own = fit.own; past = fit.past });
      later = h.later;
    }

push_end : (items : List Ticket) (v : Hand) → v.live ≡ true → IsDispatched items (v ∷ []) → IsDispatched (items ++ End ∷ []) (record v { seats = v.seats + 1; parts = v.parts + 1 } ∷ [])
push_end items v live h =
    let w : Hand = record v { seats = v.seats + 1; parts = v.parts + 1 } in
    let fit = h.fits 0 v refl in
    let ended = fit.ended in
    let seats : v.seats ≡ parts_of (v ∷ []) = fit.seats live in
    let marks : parts_of (v ∷ []) ≡ ended_of (v ∷ []) + h.ends = h.marks in
    record {
      n = h.n;
      log = h.log;
      left = h.left;
      ends = suc h.ends;
      holds = ap (λ (xs : List Ticket). xs ++ End ∷ []) h.holds ∙ end_last h.left h.ends;
      played = h.played;
      takes = h.takes;
      marks = omega arith;
      fits = at_only (Fits h.n h.log h.left (w ∷ [])) w
          (record { alone = λ _. refl; made = fit.made; seats = λ _. omega arith; ended = omega arith; idle = λ none. absurd (omega arith); last = fit.last; own = fit.own; past = fit.past });
      later = h.later;
    }

-- a step of the one seat that there is
alone_steps : (xs : List Ticket) (v w : Hand) → v.alone ≡ true → ((items : List Ticket) → IsDispatched items (v ∷ []) → IsDispatched (items ++ xs) (w ∷ [])) → Pushed v xs w → (seat : ℕ) → Pushes IsDispatched seat v xs (Pushed v xs)
alone_steps xs v w alone step told seat items views h at =
    let one = only views seat v ((h.fits seat v at).alone alone) at in
    let now : IsDispatched (items ++ xs) (w ∷ []) = step items (subst (IsDispatched items) one.1 h) in
    let there : set views seat w ≡ w ∷ [] = ap (λ (vs : List Hand). set vs seat w) one.1 ∙ ap (λ (s : ℕ). set (v ∷ []) s w) one.0 in
    (w, subst (IsDispatched (items ++ xs)) (sym there) now, told)

pub pushes_number : (seat : ℕ) (v : Hand) (i : ℕ) → v.alone ≡ true → v.live ≡ true → v.parts ≡ 0 → v.made ≡ i → Pushes IsDispatched seat v (Number i ∷ []) (Pushed v (Number i ∷ []))
pushes_number seat v i alone live bare next =
    alone_steps (Number i ∷ []) v (record v { made = v.made + 1 }) alone (λ items h. push_number items v i live bare next h) refl seat

pub pushes_end : (seat : ℕ) (v : Hand) → v.alone ≡ true → v.live ≡ true → Pushes IsDispatched seat v (End ∷ []) (Pushed v (End ∷ []))
pushes_end seat v alone live =
    alone_steps (End ∷ []) v (record v { seats = v.seats + 1; parts = v.parts + 1 }) alone (λ items h. push_end items v live h) refl seat

-- Taking

-- where none is left, all numbers were taken
all_taken : (log : List Event) (left : List ℕ) (n : ℕ) → IsPushed n log left → left ≡ [] → taken log ≡ first_numbers n
all_taken log left n played none =
    sym (append-nil (taken log)) ∙ ap (λ (xs : List ℕ). taken log ++ xs) (sym none) ∙ sym (taken_then_left log left played.legal) ∙ played.pushes

-- what others know stays, where the log grows by an event of another seat
refit : (n : ℕ) (log log' : List Event) (left left' : List ℕ) (views views' : List Hand) (seat : ℕ) (v : Hand)
    → length views' ≡ length views → parts_of views' ≡ parts_of views → (left ≡ [] → left' ≡ []) → taken_by seat log' ≡ taken_by seat log → length (taken log) ≤ length (taken log')
    → Fits n log left views seat v → Fits n log' left' views' seat v
refit n log log' left left' views views' seat v many parts less same more fit = record {
  alone = λ a. many ∙ fit.alone a;
  made = fit.made;
  seats = λ l. fit.seats l ∙ sym parts;
  ended = fit.ended;
  idle = fit.idle;
  last = λ e. less (fit.last e);
  own = λ o. fit.own o ∙ sym same;
  past = let p = fit.past in omega arith;
}

take_number : (seat : ℕ) (v : Hand) (i : ℕ) (items : List Ticket) (views : List Hand) → v.live ≡ true → v.own ≡ true → 0 < v.parts
    → IsDispatched (Number i ∷ items) views → At views seat v
    → (w : Hand) × IsDispatched items (set views seat w) × Took v (Number i ∷ []) w
take_number seat v i items views live own may h at =
    let w : Hand = record v { taken = v.taken ++ i ∷ []; past = i + 1 } in
    let front = front_number i items h.left h.ends h.holds in
    let rest : List ℕ = front.0 in
    let was : h.left ≡ i ∷ rest = front.1 in
    let log : List Event = Take seat i ∷ h.log in
    let views' : List Hand = set views seat w in
    let fit = h.fits seat v at in
    let parts : parts_of views' ≡ parts_of views = let e = total_set (λ u. u.parts) views seat v w at in omega arith in
    let ended : ended_of views' ≡ ended_of views = let e = total_set (λ u. u.ended) views seat v w at in omega arith in
    let still : (h.left ≡ [] → rest ≡ []) = λ none. absurd cc in
    let out = handed_out h.log h.left h.n h.played.legal h.played.pushes in
    let at_front : (i ≡ out.k) × (out.k < h.n) = first_left i rest out.k out.left h.n out.all (sym was ∙ out.rest_is) in
    let next : i ≡ out.k = at_front.0 in
    let mine : v.taken ≡ taken_by seat h.log = fit.own own in
    let below : All (λ j. j < i) v.taken = subst (λ (xs : List ℕ). All (λ j. j < i) xs) (sym mine) (subst (λ (k : ℕ). All (λ j. j < k) (taken_by seat h.log)) (sym next) (out.below seat)) in
    let made : v.made ≡ h.n = fit.made live in
    let so_far : length (taken h.log) ≡ out.k = ap length out.takes ∙ length-range_with_len 0 out.k in
    let one_more : length (taken log) ≡ length (taken h.log) + 1 = length-append (taken h.log) (i ∷ []) in
    let past : v.past ≤ length (taken h.log) = fit.past in (
      w,
      record {
        n = h.n;
        log = log;
        left = rest;
        ends = h.ends;
        holds = front.2;
        played = record { legal = (h.left, h.played.legal, was); pushes = h.played.pushes };
        takes = λ j.
            let e = total_set (λ u. times j u.taken) views seat v w at in
            let a : times j w.taken ≡ times j v.taken + times j (i ∷ []) = sum_by-append (λ x. cond (eqb x j) 1 0) v.taken (i ∷ []) in
            let b : times j (taken log) ≡ times j (taken h.log) + times j (i ∷ []) = sum_by-append (λ x. cond (eqb x j) 1 0) (taken h.log) (i ∷ []) in
            let t = h.takes j in
            omega arith;
        marks = let m = h.marks in omega arith;
        fits = λ other u there. ⊎_elim
            (λ (is : (other ≡ seat) × (w ≡ u)). subst (λ (y : ℕ × Hand). Fits h.n log rest views' y.0 y.1) (λ k. (sym is.0 k, is.1 k))
            (record {
              alone = λ a. length-set views seat w ∙ fit.alone a;
              made = fit.made;
              seats = λ l. fit.seats l ∙ sym parts;
              ended = fit.ended;
              idle = λ none. absurd (omega arith);
              last = λ e. let none : h.left ≡ [] = fit.last e in absurd cc;
              own = λ o. rw (eq-eqb seat seat refl) (ap (λ (xs : List ℕ). xs ++ i ∷ []) mine);
              past = omega arith;
            }))
            (λ (is : (other ≢ seat) × At views other u). refit h.n h.log log h.left rest views views' other u (length-set views seat w) parts still
            (rw (ne_eqb seat other (λ e. is.0 (sym e))) refl) (omega arith) (h.fits other u is.1))
            (at_set views seat other w u there);
        later = λ other far.
            let long : length views ≤ other = subst (λ n. n ≤ other) (length-set views seat w) far in
            let there = at_below views seat v at in
            rw (ne_eqb seat other (λ e. absurd (omega arith))) (h.later other long);
      },
      (refl, omega arith, omega arith, below),
    )
  where
    first_left : (i : ℕ) (rest : List ℕ) (k left n : ℕ) → k + left ≡ n → i ∷ rest ≡ range_with_len k left → (i ≡ k) × (k < n)
    first_left i rest k zero n all e = absurd cc
    first_left i rest k (suc left) n all e = (cc, omega arith)

take_end : (seat : ℕ) (v : Hand) (items : List Ticket) (views : List Hand) → v.live ≡ true → v.ended < v.parts
    → IsDispatched (End ∷ items) views → At views seat v
    → (w : Hand) × IsDispatched items (set views seat w) × Took v (End ∷ []) w
take_end seat v items views live may h at =
    let w : Hand = record v { ended = v.ended + 1; past = v.made } in
    let front = front_end items h.left h.ends h.holds in
    let none : h.left ≡ [] = front.2 in
    let ends : h.ends ≡ suc front.0 = front.1 in
    let log : List Event = Empty seat ∷ h.log in
    let views' : List Hand = set views seat w in
    let fit = h.fits seat v at in
    let parts : parts_of views' ≡ parts_of views = let e = total_set (λ u. u.parts) views seat v w at in omega arith in
    let ended : ended_of views' ≡ ended_of views + 1 = let e = total_set (λ u. u.ended) views seat v w at in omega arith in
    let made : v.made ≡ h.n = fit.made live in
    let all : length (taken h.log) ≡ h.n = ap length (all_taken h.log h.left h.n h.played none) ∙ length-range_with_len 0 h.n in (
      w,
      record {
        n = h.n;
        log = log;
        left = [];
        ends = front.0;
        holds = front.3;
        played = record { legal = (h.left, h.played.legal, (none, refl)); pushes = h.played.pushes };
        takes = λ j. let e = total_set (λ u. times j u.taken) views seat v w at in let t = h.takes j in omega arith;
        marks = let m = h.marks in omega arith;
        fits = λ other u there. ⊎_elim
            (λ (is : (other ≡ seat) × (w ≡ u)). subst (λ (y : ℕ × Hand). Fits h.n log [] views' y.0 y.1) (λ k. (sym is.0 k, is.1 k))
            (record {
              alone = λ a. length-set views seat w ∙ fit.alone a;
              made = fit.made;
              seats = λ l. fit.seats l ∙ sym parts;
              ended = omega arith;
              idle = fit.idle;
              last = λ e. refl;
              own = fit.own;
              past = omega arith;
            }))
            (λ (is : (other ≢ seat) × At views other u). refit h.n h.log log h.left [] views views' other u (length-set views seat w) parts (λ e. refl) refl (omega arith) (h.fits other u is.1))
            (at_set views seat other w u there);
        later = λ other far. h.later other (subst (λ n. n ≤ other) (length-set views seat w) far);
      },
      refl,
    )

pub takes : (seat : ℕ) (v : Hand) → v.live ≡ true → v.own ≡ true → v.ended < v.parts → Takes IsDispatched seat v 1 (Took v)
takes seat v live own may [] items views some_ one h at = absurd (omega arith)
takes seat v live own may (Number i ∷ []) items views some_ one h at = take_number seat v i items views live own (omega arith) h at
takes seat v live own may (End ∷ []) items views some_ one h at = take_end seat v items views live may h at
takes seat v live own may (x ∷ y ∷ xs) items views some_ one h at = absurd (omega arith)

no_end_left : (items : List Ticket) (views : List Hand) (seat : ℕ) (v : Hand) → length items ≤ 0 → IsDispatched items views → At views seat v → v.parts ≤ v.ended
no_end_left (x ∷ items) views seat v few h at = absurd (omega arith)
no_end_left [] views seat v few h at = cases (dec_le v.parts v.ended)
  where
    cases : Dec (v.parts ≤ v.ended) → v.parts ≤ v.ended
    cases (yes d) = d
    cases (no d) =
        let fewer = fewer_ended views seat v at (omega arith) (λ other u there. (h.fits other u there).ended) in
        let none = none_left h.left h.ends h.holds in
        let marks = h.marks in
        absurd (omega arith)

-- the deque is empty only once a seat has taken all its end marks
pub finds : (seat : ℕ) (v : Hand) → Finds IsDispatched seat v (v.parts ≤ v.ended)
finds seat v views h at = no_end_left [] views seat v (omega arith) h at

pub finds_few : (most seat : ℕ) (v : Hand) → most ≡ 0 → FindsFew IsDispatched most seat v (v.parts ≤ v.ended)
finds_few most seat v none items views few h at = no_end_left items views seat v (omega arith) h at

-- Making a seat, and giving it back

pub cuts : (seat : ℕ) (v : Hand) → v.live ≡ true → 1 < v.parts → v.ended ≡ 0 → Forks IsDispatched seat v (kept v) (cut v)
cuts seat v live parts none items views h at =
    let l : Hand = kept v in
    let r : Hand = cut v in
    let vs : List Hand = set views seat l in
    let views' : List Hand = vs ++ r ∷ [] in
    let fit = h.fits seat v at in
    let here = at_below views seat v at in
    let many : length vs ≡ length views = length-set views seat l in
    let all_parts : parts_of views' ≡ parts_of views =
    let e = total_set (λ u. u.parts) views seat v l at in let f = total_push (λ u. u.parts) vs r in omega arith in
    let all_ended : ended_of views' ≡ ended_of views =
    let e = total_set (λ u. u.ended) views seat v l at in let f = total_push (λ u. u.ended) vs r in omega arith in
    record {
      n = h.n;
      log = h.log;
      left = h.left;
      ends = h.ends;
      holds = h.holds;
      played = h.played;
      takes = λ j.
          let e = total_set (λ u. times j u.taken) views seat v l at in
          let f = total_push (λ u. times j u.taken) vs r in
          let t = h.takes j in
          omega arith;
      marks = let m = h.marks in omega arith;
      fits = λ other u there. ⊎_elim
          (λ (was : At vs other u). ⊎_elim
          (λ (is : (other ≡ seat) × (l ≡ u)). subst (λ (y : ℕ × Hand). Fits h.n h.log h.left views' y.0 y.1) (λ k. (sym is.0 k, is.1 k))
          (record {
            alone = λ a. absurd (true≢false (sym a));
            made = fit.made;
            seats = λ live. fit.seats live ∙ sym all_parts;
            ended = omega arith;
            idle = λ e. absurd (omega arith);
            last = fit.last;
            own = fit.own;
            past = fit.past;
          }))
          (λ (is : (other ≢ seat) × At views other u).
          let old = h.fits other u is.1 in
          let place = at_below views other u is.1 in
          record {
            alone = λ a. let one = old.alone a in absurd (is.0 (omega arith));
            made = old.made;
            seats = λ live. old.seats live ∙ sym all_parts;
            ended = old.ended;
            idle = old.idle;
            last = old.last;
            own = old.own;
            past = old.past;
          })
          (at_set views seat other l u was))
          (λ (new : (other ≡ length vs) × (r ≡ u)). subst (λ (y : ℕ × Hand). Fits h.n h.log h.left views' y.0 y.1) (λ k. (sym new.0 k, new.1 k))
          (record {
            alone = λ a. absurd (true≢false (sym a));
            made = fit.made;
            seats = λ live. fit.seats live ∙ sym all_parts;
            ended = omega arith;
            idle = λ e. refl;
            last = λ e. absurd (omega arith);
            own = λ e. sym (h.later (length vs) (omega arith));
            past = fit.past;
          }))
          (at_push vs r u other there);
      later = λ other far. h.later other (let e = length-append vs (r ∷ []) in omega arith);
    }

pub joins : (seat : ℕ) (v : Hand) (other : ℕ) (w : Hand) → v.live ≡ true → 0 < v.parts → Merges IsDispatched seat v other w (joined v w) spent
joins seat v other w live some_parts items views h at apart at_other =
    let both : Hand = joined v w in
    let vs : List Hand = set views seat both in
    let views' : List Hand = set vs other spent in
    let was : At views other w = ⊎_elim (λ (x : (other ≡ seat) × (both ≡ w)). absurd (apart x.0)) (λ (x : (other ≢ seat) × At views other w). x.1) (at_set views seat other both w at_other) in
    let fit = h.fits seat v at in
    let fit_other = h.fits other w was in
    let many : length views' ≡ length views = length-set vs other spent ∙ length-set views seat both in
    let all_parts : parts_of views' ≡ parts_of views =
    let e = total_set (λ u. u.parts) views seat v both at in let f = total_set (λ u. u.parts) vs other w spent at_other in omega arith in
    let all_ended : ended_of views' ≡ ended_of views =
    let e = total_set (λ u. u.ended) views seat v both at in let f = total_set (λ u. u.ended) vs other w spent at_other in omega arith in
    record {
      n = h.n;
      log = h.log;
      left = h.left;
      ends = h.ends;
      holds = h.holds;
      played = h.played;
      takes = λ j.
          let e = total_set (λ u. times j u.taken) views seat v both at in
          let f = total_set (λ u. times j u.taken) vs other w spent at_other in
          let a : times j both.taken ≡ times j v.taken + times j w.taken = sum_by-append (λ x. cond (eqb x j) 1 0) v.taken w.taken in
          let t = h.takes j in
          omega arith;
      marks = let m = h.marks in omega arith;
      fits = λ k u there. ⊎_elim
          (λ (is : (k ≡ other) × (spent ≡ u)). subst (λ (y : ℕ × Hand). Fits h.n h.log h.left views' y.0 y.1) (λ i. (sym is.0 i, is.1 i))
          (record {
            alone = λ a. absurd (true≢false (sym a));
            made = λ a. absurd (true≢false (sym a));
            seats = λ a. absurd (true≢false (sym a));
            ended = omega arith;
            idle = λ e. refl;
            last = λ e. absurd (omega arith);
            own = λ a. absurd (true≢false (sym a));
            past = omega arith;
          }))
          (λ (not_other : (k ≢ other) × At vs k u). ⊎_elim
          (λ (is : (k ≡ seat) × (both ≡ u)). subst (λ (y : ℕ × Hand). Fits h.n h.log h.left views' y.0 y.1) (λ i. (sym is.0 i, is.1 i))
          (record {
            alone = λ a. absurd (true≢false (sym a));
            made = fit.made;
            seats = λ live. fit.seats live ∙ sym all_parts;
            ended = let a = fit.ended in let b = fit_other.ended in omega arith;
            idle = λ e. absurd (omega arith);
            last = λ e. either_ended v.ended w.ended h.left e fit.last fit_other.last;
            own = λ a. absurd (true≢false (sym a));
            past = fit.past;
          }))
          (λ (is : (k ≢ seat) × At views k u). refit h.n h.log h.log h.left h.left views views' k u many all_parts (λ e. e) refl (omega arith) (h.fits k u is.1))
          (at_set views seat k both u not_other.1))
          (at_set vs other k spent u there);
      later = λ k far. h.later k (omega arith);
    }
  where
    either_ended : (a b : ℕ) (left : List ℕ) → 0 < a + b → (0 < a → left ≡ []) → (0 < b → left ≡ []) → left ≡ []
    either_ended zero b left e f g = g (omega arith)
    either_ended (suc a) b left e f g = f (omega arith)

-- Counting

pub counts : (seat : ℕ) (v : Hand) → v.live ≡ true → v.parts ≡ v.seats → 0 < v.ended → Learns IsDispatched seat v (λ items. TookAll v)
counts seat v live all some_end items views h at i =
    let fit = h.fits seat v at in
    let whole : parts_of views ≡ v.parts = sym (all ∙ fit.seats live) in
    let idle : (other : ℕ) (u : Hand) → At views other u → u.parts ≡ 0 → times i u.taken ≡ 0 = λ other u there none. ap (times i) ((h.fits other u there).idle none) in
    let mine : total (λ u. times i u.taken) views ≡ times i v.taken = everything (λ u. times i u.taken) views seat v at whole idle in
    let none : h.left ≡ [] = fit.last some_end in
    let log : taken h.log ≡ first_numbers v.made = all_taken h.log h.left h.n h.played none ∙ ap first_numbers (sym (fit.made live)) in
    sym mine ∙ h.takes i ∙ ap (times i) log
