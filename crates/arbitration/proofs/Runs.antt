-- What outcomes say of the runs of two participants alone.
use Rattle.std.proofs.Common.{◌≡◌, ◌≢◌, ℕ, ◌+◌, ◌≤◌, ◌<◌, Bool, true, false, cond, ◌==◌, Option, Some, List, [], ◌∷◌, ◌++◌, length, length-append, append_assoc, append-nil, refl, ap, sym, ◌∙◌, subst, arith, inl, inr, ◌⊎◌, eq-eqb}
use Rattle.std.proofs.lemmas.Bool.Decides.{nat_tests}
use Rattle.message_tree.specs.declared.items.Item.{Item}
use Rattle.message_tree.specs.declared.items.Item.TheVariants.{Sent, Heard, Again, Stop, Claim}
use Rattle.message_tree.specs.declared.items.Kind.TheVariants as kind
use Rattle.message_tree.specs.Items.{kind_of, Clash}
use Rattle.message_tree.specs.Texts.{Sender, message, interrupt}
use Rattle.message_tree.proofs.TextLengths.{longest_frame, longest_interrupt}
use Rattle.plan_core.specs.Contents.{Contents}
use Rattle.plan_core.specs.Faults.{IsFaulty}
use Rattle.plan_core.specs.Laws.{SendsItsMessages, HasShortMessages, NoClaim, BothLive}
use Rattle.plan_core.specs.Lawful.{Set, In, pair, IsPair}
use Rattle.plan_core.specs.Participants.{Text, sender_at}
use Rattle.plan_core.specs.Rounds.{Follows, Offers, survivors}
use Rattle.plan_core.specs.Runs.{Reaches, start, slot, HasEnded}
use Rattle.plan_core.proofs.Model.{survived, survives, still_in, followed, followed_on, in_pair, both_live, offers_without_claim, fault_of_pair}
use Rattle.plan_core.proofs.Safety.{either}
use Rattle.plan_core.proofs.Texts.{fair_text, end_cases, some_text, bounded_text, end_bound}
use Rattle.arbitration.specs.Arbitration.{EndTogether, Wins, sender_slots}
use Rattle.arbitration.specs.declared.spans.Slots.{Slots}
use Rattle.arbitration.specs.Spans.{IsSpan}
use Rattle.arbitration.proofs.SpanLemmas.{span_same}
use Rattle.arbitration.specs.Laws.{EndsAt, Beats, BeatsAt, ComesTo, SomeOutcome}

-- ---- a plan's messages leave room

pub sender_fits : (plan : Contents) (p : ℕ) (s : Sender) → HasShortMessages plan → sender_at plan p ≡ Some s → sender_slots s ≤ 2560
sender_fits plan p (message f) h e =
    let u = (longest_frame f).reached in
    omega (arith, u.2, bounded_text plan p u.0 h (rw e u.1))
sender_fits plan p (interrupt a) h e =
    let u = (longest_interrupt a).reached in
    omega (arith, u.2, bounded_text plan p u.0 h (rw e u.1))

-- ---- the last item of a wire

last_item : (u v : List Item) (x y : Item) → u ++ x ∷ [] ≡ v ++ y ∷ [] → (u ≡ v) × (x ≡ y)
last_item [] [] x y e = (refl, cc)
last_item [] (b ∷ []) x y e = absurd cc
last_item [] (b ∷ c ∷ v) x y e = absurd cc
last_item (a ∷ []) [] x y e = absurd cc
last_item (a ∷ b ∷ u) [] x y e = absurd cc
last_item (a ∷ u) (b ∷ v) x y e =
    let f : a ≡ b = cc in
    let r = last_item u v x y cc in
    (let g = r.0 in cc, r.1)

not_nil : (u : List Item) (x : Item) → [] ≡ u ++ x ∷ [] → ⊥
not_nil [] x e = cc
not_nil (a ∷ u) x e = cc

no_claim_then : (u : List Item) (x : Item) → x ≢ Claim → NoClaim u → NoClaim (u ++ x ∷ [])
no_claim_then [] x n h = (n, tt)
no_claim_then (a ∷ u) x n h = (h.0, no_claim_then u x n h.1)

-- ---- two who have ended

-- two claims clash
one_claims : {plan : Contents} {s : Set} {u : List Item} {live : Set} (x y : ℕ) (v : List Item) → Reaches plan s u live → u ≡ v ++ Claim ∷ [] → x ≢ y → In x live → In y live → ⊥
one_claims x y v start e n i j = not_nil v Claim e
one_claims x y v (slot {u = u} {live = before} put w r o) e n i j =
    let k = survived before put w x i in
    let l = survived before put w y j in
    let c = (last_item u v w Claim e).1 in
    o.no_clash x y n k.0 l.0 (inr (ap kind_of (k.1 ∙ c), ap kind_of (l.1 ∙ c)))

module _ (plan : Contents) (x y : ℕ) (n : x ≢ y) where
  pub ended : (k : ℕ) → EndTogether (Text plan x) (Text plan y) k → EndsAt plan x y k
  ended k t =
      let u = t.wire ++ Stop ∷ [] in
      let whole : (p : ℕ) → Text plan p u → Follows plan p u = λ p h. ([], subst (Text plan p) (sym (append-nil u)) h) in
      let none = no_claim_then t.wire Stop (λ e. cc) (offers_without_claim plan x t.wire kind.Stop (Stop, ([], t.first), refl)) in
      (u, omega (arith, length-append t.wire (Stop ∷ []), t.slot), (t.wire, inl refl), both_live plan x y u (inl none) (whole x t.first) (whole y t.second))

  pub ends : (k : ℕ) → EndsAt plan x y k → EndTogether (Text plan x) (Text plan y) k
  ends k (u, l, (v, inl e), (live, r, i, j)) =
      let whole : (p : ℕ) → In p live → Text plan p (v ++ Stop ∷ []) = λ p h. subst (Text plan p) e (end_bound plan p u (v, inl e) (followed_on r p h)) in
      record { wire = v; slot = omega (arith, l, ap length e, length-append v (Stop ∷ [])); first = whole x i; second = whole y j }
  ends k (u, l, (v, inr e), (live, r, i, j)) = absurd (one_claims x y v r e n i j)

-- ---- one who loses

both_sent : (a b : Bool) → Clash (Sent a) (Sent b) → ⊥
both_sent a b (inl n) = n refl
both_sent a b (inr e) = let f = e.0 in cc

-- who puts 0 where the others put 1
puts : ℕ → ℕ → Item
puts w p = cond (p == w) (Sent false) (Sent true)

puts_zero : (w p : ℕ) → p ≡ w → puts w p ≡ Sent false
unfolding puts
puts_zero w p e = rw (eq-eqb p w e) refl

puts_one : (w p : ℕ) → p ≢ w → puts w p ≡ Sent true
unfolding puts
puts_one w p n =
    elim (either (p == w)) [
      | inl e ↦ absurd (n (grind (arith, nat_tests)))
      | inr e ↦ rw e refl
    ]

puts_bit : (w p : ℕ) → (b : Bool) × (puts w p ≡ Sent b)
unfolding puts
puts_bit w p = elim (either (p == w)) [ inl e ↦ (false, rw e refl) | inr e ↦ (true, rw e refl) ]

lost : (live : Set) (put : ℕ → Item) (l : ℕ) → In l live → put l ≡ Sent true → survivors live put (Sent false) l ≡ false
lost live put l j e = rw (j, e) refl

-- w sends 0 and goes on, and l sends 1 and loses
beats : (plan : Contents) (s : Set) (w l : ℕ) (u : List Item) (live : Set) → w ≢ l → Reaches plan s u live → ((p : ℕ) → In p live → (p ≡ w) ⊎ (p ≡ l)) → In w live → In l live → Offers plan w u (Sent false) → Offers plan l u (Sent true) → Beats plan s w l u
beats plan s w l u live n r two i j f g =
    let put : ℕ → Item = puts w in
    let zero_w = puts_zero w w refl in
    let one_l = puts_one w l (λ e. n (sym e)) in
    record {
      live = live;
      reached = r;
      winner = i;
      loser = j;
      put = put;
      shown = Sent false;
      next = record {
        is_round = record {
          offered = λ p h. elim (two p h) [
            | inl e ↦ subst (λ (q : ℕ). Offers plan q u (put q)) (sym e) (subst (Offers plan w u) (sym zero_w) f)
            | inr e ↦ subst (λ (q : ℕ). Offers plan q u (put q)) (sym e) (subst (Offers plan l u) (sym one_l) g)
          ];
          heard = λ p q b c h k e d. let t = puts_bit w p in let a = t.1 in absurd cc;
        };
        no_clash = λ p q d h k c. both_sent (puts_bit w p).0 (puts_bit w q).0 (rw ((puts_bit w p).1, (puts_bit w q).1) at c);
        is_wire = record {
          some = (w, i, zero_w);
          all = λ p h. elim (two p h) [
            | inl e ↦ inl (puts_zero w p e)
            | inr e ↦ inr (puts_one w p (λ d. n (sym d ∙ e)), refl)
          ];
        };
      };
      goes_on = survives live put (Sent false) w i zero_w;
      has_lost = lost live put l j one_l;
    }

-- who has lost sent 1, and the other 0
won : (plan : Contents) (s : Set) (w l : ℕ) (u : List Item) → Beats plan s w l u → Offers plan w u (Sent false) × Offers plan l u (Sent true)
won plan s w l u h =
    let k = survived h.live h.put h.shown w h.goes_on in
    elim (h.next.is_wire.all l h.loser) [
      | inl e ↦ absurd (let i = survives h.live h.put h.shown l h.loser e in let j = h.has_lost in cc)
      | inr e ↦ (
        subst (Offers plan w u) (k.1 ∙ e.1) (h.next.is_round.offered w h.winner),
        subst (Offers plan l u) e.0 (h.next.is_round.offered l h.loser),
      )
    ]

module _ (plan : Contents) (x y : ℕ) (n : x ≢ y) where
  both_live_here : (u : List Item) (i j : Item) → Offers plan x u i → Offers plan y u j → BothLive plan x y u
  both_live_here u i j f g =
      both_live plan x y u (inl (offers_without_claim plan x u (kind_of i) (i, f, refl))) (i ∷ f.0, f.1) (j ∷ g.0, g.1)

  pub first_goes_on : (u : List Item) → Offers plan x u (Sent false) → Offers plan y u (Sent true) → Beats plan (pair x y) x y u
  first_goes_on u f g =
      let b = both_live_here u (Sent false) (Sent true) f g in
      beats plan (pair x y) x y u b.0 n b.1 (λ p h. in_pair x y p (still_in b.1 p h)) b.2 b.3 f g

  pub second_goes_on : (u : List Item) → Offers plan x u (Sent true) → Offers plan y u (Sent false) → Beats plan (pair x y) y x u
  second_goes_on u f g =
      let b = both_live_here u (Sent true) (Sent false) f g in
      beats plan (pair x y) y x u b.0 (λ e. n (sym e)) b.1 (λ p h. elim (in_pair x y p (still_in b.1 p h)) [ inl e ↦ inr e | inr e ↦ inl e ]) b.3 b.2 g f

  pub first_wins_run : (k : ℕ) → Wins (Text plan x) (Text plan y) k → BeatsAt plan (pair x y) x y k
  first_wins_run k w = (w.wire, w.slot, first_goes_on w.wire w.winner w.loser)

  pub second_wins_run : (k : ℕ) → Wins (Text plan y) (Text plan x) k → BeatsAt plan (pair x y) y x k
  second_wins_run k w = (w.wire, w.slot, second_goes_on w.wire w.loser w.winner)

pub wins_of_run : (plan : Contents) (s : Set) (w l k : ℕ) → BeatsAt plan s w l k → Wins (Text plan w) (Text plan l) k
wins_of_run plan s w l k h =
    let r = won plan s w l h.0 h.2 in
    record { wire = h.0; slot = h.1; winner = r.0; loser = r.1 }

-- ---- spans of runs

module _ (plan : Contents) (x y : ℕ) (n : x ≢ y) (o : Option Slots) where
  pub ends_span : IsSpan (EndTogether (Text plan x) (Text plan y)) o → IsSpan (EndsAt plan x y) o
  ends_span h = span_same (EndTogether (Text plan x) (Text plan y)) (EndsAt plan x y) o (ended plan x y n) (ends plan x y n) h

  pub first_in_runs : IsSpan (Wins (Text plan x) (Text plan y)) o → IsSpan (BeatsAt plan (pair x y) x y) o
  first_in_runs h =
      span_same (Wins (Text plan x) (Text plan y)) (BeatsAt plan (pair x y) x y) o (first_wins_run plan x y n) (wins_of_run plan (pair x y) x y) h

  pub second_in_runs : IsSpan (Wins (Text plan y) (Text plan x)) o → IsSpan (BeatsAt plan (pair x y) y x) o
  second_in_runs h =
      span_same (Wins (Text plan y) (Text plan x)) (BeatsAt plan (pair x y) y x) o (second_wins_run plan x y n) (wins_of_run plan (pair x y) y x) h

-- ---- a pair that has no fault comes to one of the three

has_ended : (plan : Contents) (p : ℕ) (u : List Item) → Text plan p u → HasEnded u
has_ended plan p u t =
    let e = (fair_text plan p).ends u t in
    elim (end_cases e.end e.is_end) [
      | inl s ↦ (e.before, inl (e.whole ∙ ap (λ (x : Item). e.before ++ x ∷ []) s))
      | inr s ↦ (e.before, inr (e.whole ∙ ap (λ (x : Item). e.before ++ x ∷ []) s))
    ]

module _ (plan : Contents) (x y : ℕ) (lt : x < y) (safe : IsFaulty plan (pair x y) → ⊥) where
  never_clash : (u : List Item) (i j : Item) → Offers plan x u i → Offers plan y u j → Clash i j → ⊥
  never_clash u i j f g c =
      safe (u, x, y, kind_of i, kind_of j, fault_of_pair plan x y u (kind_of i) (kind_of j) lt ((i, f, refl), (j, g, refl), c))

  abbrev Here : List Item → Type 0
  Here u = (HasEnded u × BothLive plan x y u) ⊎ (Beats plan (pair x y) x y u ⊎ Beats plan (pair x y) y x u)

  here : (u : List Item) → Here u → ComesTo plan x y u
  here u h = ([], subst Here (sym (append-nil u)) h)

  later : (u : List Item) (i : Item) → ComesTo plan x y (u ++ i ∷ []) → ComesTo plan x y u
  later u i h = (i ∷ h.0, subst Here (append_assoc u (i ∷ []) h.0) h.1)

  offers_along : (p : ℕ) (u rest : List Item) (i : Item) → Text plan p (u ++ i ∷ rest) → Text plan p ((u ++ i ∷ []) ++ rest)
  offers_along p u rest i h = subst (Text plan p) (sym (append_assoc u (i ∷ []) rest)) h

  same_live : (u p q : List Item) (i : Item) → i ≢ Claim → Text plan x (u ++ i ∷ p) → Text plan y (u ++ i ∷ q) → BothLive plan x y (u ++ i ∷ [])
  same_live u p q i n f g =
      both_live plan x y (u ++ i ∷ []) (inl (no_claim_then u i n (offers_without_claim plan x u (kind_of i) (i, (p, f), refl)))) (p, offers_along x u p i f) (q, offers_along y u q i g)

  come : (p u q : List Item) → BothLive plan x y u → Text plan x (u ++ p) → Text plan y (u ++ q) → ComesTo plan x y u
  come [] u q b f g = here u (inl (has_ended plan x u (subst (Text plan x) (append-nil u) f), b))
  come (i ∷ p) u [] b f g = here u (inl (has_ended plan y u (subst (Text plan y) (append-nil u) g), b))
  come (Sent false ∷ p) u (Sent true ∷ q) b f g = here u (inr (inl (first_goes_on plan x y (λ e. absurd (omega arith)) u (p, f) (q, g))))
  come (Sent true ∷ p) u (Sent false ∷ q) b f g = here u (inr (inr (second_goes_on plan x y (λ e. absurd (omega arith)) u (p, f) (q, g))))
  come (Sent false ∷ p) u (Sent false ∷ q) b f g =
      later u (Sent false) (come p (u ++ Sent false ∷ []) q (same_live u p q (Sent false) (λ e. cc) f g) (offers_along x u p (Sent false) f) (offers_along y u q (Sent false) g))
  come (Sent true ∷ p) u (Sent true ∷ q) b f g =
      later u (Sent true) (come p (u ++ Sent true ∷ []) q (same_live u p q (Sent true) (λ e. cc) f g) (offers_along x u p (Sent true) f) (offers_along y u q (Sent true) g))
  come (Heard c ∷ p) u (Heard d ∷ q) b f g =
      let r = (fair_text plan y).both u q d c g in
      later u (Heard c) (come p (u ++ Heard c ∷ []) r.0 (same_live u p r.0 (Heard c) (λ e. cc) f r.1) (offers_along x u p (Heard c) f) (offers_along y u r.0 (Heard c) r.1))
  come (Again ∷ p) u (Again ∷ q) b f g =
      later u Again (come p (u ++ Again ∷ []) q (same_live u p q Again (λ e. cc) f g) (offers_along x u p Again f) (offers_along y u q Again g))
  come (Stop ∷ p) u (Stop ∷ q) b f g =
      later u Stop (come p (u ++ Stop ∷ []) q (same_live u p q Stop (λ e. cc) f g) (offers_along x u p Stop f) (offers_along y u q Stop g))
  come (Claim ∷ p) u (Claim ∷ q) b f g = absurd (never_clash u Claim Claim (p, f) (q, g) (inr (refl, refl)))
  come (i ∷ p) u (j ∷ q) b f g = absurd (never_clash u i j (p, f) (q, g) (inl (λ e. cc)))

pub comes_to : (plan : Contents) (x y : ℕ) (u : List Item) → SendsItsMessages plan → IsPair plan x y → (IsFaulty plan (pair x y) → ⊥) → BothLive plan x y u → ComesTo plan x y u
comes_to plan x y u m pr safe b =
    let follows : (p : ℕ) → In p b.0 → Follows plan p u = followed (λ q j. some_text plan m q (pr.1.participants q j)) b.1 in
    let f = follows x b.2 in
    let g = follows y b.3 in
    come plan x y pr.0 safe f.0 u g.0 b f.1 g.1

first_in : (x y : ℕ) → In x (pair x y)
first_in x y = grind (arith, nat_tests)

second_in : (x y : ℕ) → In y (pair x y)
second_in x y = grind (arith, nat_tests)

ended_length : (u : List Item) → HasEnded u → (k : ℕ) × (length u ≡ k + 1)
ended_length u (v, inl e) = (length v, ap length e ∙ length-append v (Stop ∷ []))
ended_length u (v, inr e) = (length v, ap length e ∙ length-append v (Claim ∷ []))

outcome_at_end : (plan : Contents) (x y : ℕ) → x ≢ y → (u : List Item) → HasEnded u → BothLive plan x y u → SomeOutcome plan x y
outcome_at_end plan x y n u h b =
    let k = ended_length u h in
    (k.0, inl (ends plan x y n k.0 (u, k.1, h, b)))

pub some_outcome : (plan : Contents) (x y : ℕ) → SendsItsMessages plan → IsPair plan x y → (IsFaulty plan (pair x y) → ⊥) → SomeOutcome plan x y
some_outcome plan x y m pr safe =
    let n : x ≢ y = λ e. absurd (let lt = pr.0 in omega arith) in
    let b : BothLive plan x y [] = (pair x y, start, first_in x y, second_in x y) in
    let r = comes_to plan x y [] m pr safe b in
    elim r.1 [
      | inl h ↦ outcome_at_end plan x y n r.0 h.0 h.1
      | inr h ↦ elim h [
        | inl w ↦ (length r.0, inr (inl (wins_of_run plan (pair x y) x y (length r.0) (r.0, refl, w))))
        | inr w ↦ (length r.0, inr (inr (wins_of_run plan (pair x y) y x (length r.0) (r.0, refl, w))))
      ]
    ]
