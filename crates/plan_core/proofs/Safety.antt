-- In a safe plan each run goes on until it has ended.
use Rattle.std.proofs.Common.{◌≡◌, ◌≢◌, ℕ, zero, suc, ◌<◌, Bool, true, false, List, [], ◌∷◌, ◌++◌, refl, ap, sym, ◌∙◌, subst, append-nil, arith, inl, inr, ◌⊎◌, ◌==◌}
use Rattle.std.proofs.lemmas.Bool.{cases_lt}
use Rattle.std.proofs.lemmas.Bool.Decides.{nat_tests}
use Rattle.message_tree.specs.declared.items.Item.{Item}
use Rattle.message_tree.specs.declared.items.Item.TheVariants.{Sent, Heard, Again, Stop, Claim}
use Rattle.message_tree.specs.declared.items.Kind.{Kind}
use Rattle.message_tree.specs.declared.items.Kind.TheVariants as kind
use Rattle.message_tree.specs.Items.{kind_of, KindsClash, Clash}
use Rattle.message_tree.proofs.KindLemmas.{one_kind}
use Rattle.plan_core.specs.Contents.{Contents}
use Rattle.plan_core.specs.Participants.{Text, participant_count}
use Rattle.plan_core.specs.Lawful.{Set, In}
use Rattle.plan_core.specs.Rounds.{Follows, Offers, IsRound, NoClash, IsWire, survivors}
use Rattle.plan_core.specs.Runs.{IsReached, HasEnded}
use Rattle.plan_core.specs.Faults.{IsSafe}
use Rattle.plan_core.specs.Laws.{HasNext, HasOneWire}
use Rattle.plan_core.proofs.Texts.{fair_text, end_cases, nothing_after}
use Rattle.plan_core.proofs.Model.{still_in, survived, survives}

-- ---- kinds

clash_swaps : (j k : Kind) → KindsClash j k → KindsClash k j
clash_swaps j k (inl n) = inl (λ e. n (sym e))
clash_swaps j k (inr h) = inr (h.1, h.0)

-- an item that is neither sent nor heard is its kind
item_of_kind : (x y : Item) → kind_of x ≡ kind_of y → (kind_of y ≡ kind.Sent → ⊥) → (kind_of y ≡ kind.Heard → ⊥) → x ≡ y
item_of_kind Again Again e s h = refl
item_of_kind Stop Stop e s h = refl
item_of_kind Claim Claim e s h = refl
item_of_kind x (Sent b) e s h = absurd (s refl)
item_of_kind x (Heard b) e s h = absurd (h refl)
item_of_kind _ _ e s h = cc

heard_bit : (x : Item) → kind_of x ≡ kind.Heard → (b : Bool) × (x ≡ Heard b)
heard_bit (Heard b) h = (b, refl)
heard_bit _ h = cc

-- ---- what a live participant puts

-- one who has not come to the end of its text offers an item
pub offers_some : (plan : Contents) (p : ℕ) (u : List Item) → (HasEnded u → ⊥) → Follows plan p u → (x : Item) × Offers plan p u x
offers_some plan p u n ([], t) =
    let e = (fair_text plan p).ends (u ++ []) t in
    let w : u ≡ e.before ++ e.end ∷ [] = sym (append-nil u) ∙ e.whole in
    absurd (n (elim (end_cases e.end e.is_end) [
      | inl s ↦ (e.before, inl (w ∙ ap (λ (x : Item). e.before ++ x ∷ []) s))
      | inr s ↦ (e.before, inr (w ∙ ap (λ (x : Item). e.before ++ x ∷ []) s))
    ]))
offers_some plan p u n (x ∷ rest, t) = (x, (rest, t))

-- a choice for those who pass a test
chosen : {P : Item → Type 0} (b : Bool) → (b ≡ true → (x : Item) × P x) → Item
chosen true f = (f refl).0
chosen false f = Stop

chosen_passes : {P : Item → Type 0} (b : Bool) (f : b ≡ true → (x : Item) × P x) → b ≡ true → P (chosen b f)
unfolding chosen
chosen_passes true f h = (f refl).1
chosen_passes false f h = cc

pub either : (b : Bool) → (b ≡ true) ⊎ (b ≡ false)
either true = inl refl
either false = inr refl

-- whoever sends sends a 1 or a 0
one_or_zero : (x : Item) → kind_of x ≡ kind.Sent → (x ≡ Sent true) ⊎ (x ≡ Sent false)
one_or_zero (Sent true) h = inl refl
one_or_zero (Sent false) h = inr refl
one_or_zero _ h = cc

-- ---- the wire of a round without a clash

-- one of the first n who sends a 0, if there is one
zero_among : (live : Set) (put : ℕ → Item) (n : ℕ) → ((q : ℕ) × In q live × (put q ≡ Sent false)) ⊎ ((q : ℕ) → q < n → In q live → put q ≡ Sent false → ⊥)
zero_among live put zero = inr (λ q lt i e. absurd (omega arith))
zero_among live put (suc n) =
    elim (zero_among live put n) [
      | inl found ↦ inl found
      | inr none ↦ elim (either (survivors live put (Sent false) n)) [
        | inl left ↦ let k = survived live put (Sent false) n left in inl (n, k.0, k.1)
        | inr gone ↦ inr (λ q lt i e. elim (cases_lt q n) [
          | inl below ↦ none q below i e
          | inr above ↦ let here : q ≡ n = omega arith in let left : survivors live put (Sent false) q ≡ true = survives live put (Sent false) q i e in let same : survivors live put (Sent false) q ≡ survivors live put (Sent false) n = ap (survivors live put (Sent false)) here in cc
        ])
      ]
    ]

-- no two items are the wire of one round
one_wire : (live : Set) (put : ℕ → Item) (w v : Item) → IsWire live put w → IsWire live put v → v ≡ w
one_wire live put w v a b =
    elim (b.all a.some.0 a.some.1) [
      | inl e ↦ sym e ∙ a.some.2
      | inr e ↦ elim (a.all b.some.0 b.some.1) [
        | inl d ↦ sym b.some.2 ∙ d
        | inr d ↦ let one : v ≡ Sent true = sym b.some.2 ∙ d.0 in let zero' : v ≡ Sent false = e.1 in cc
      ]
    ]

module _ (n : ℕ) (live : Set) (bounded : (p : ℕ) → In p live → p < n) (put : ℕ → Item) where
  -- all put this item
  same_wire : (w : Item) (p : ℕ) → In p live → ((q : ℕ) → In q live → put q ≡ w) → IsWire live put w
  same_wire w p i e = record { some = (p, i, e p i); all = λ q j. inl (e q j) }

  -- all send, and the wire is the AND of the bits
  sent_wire : (p : ℕ) → In p live → ((q : ℕ) → In q live → kind_of (put q) ≡ kind.Sent) → (w : Item) × IsWire live put w
  sent_wire p i k =
      elim (zero_among live put n) [
        | inl somebody ↦ (
          Sent false,
          record {
            some = somebody;
            all = λ q j. elim (one_or_zero (put q) (k q j)) [ inl e ↦ inr (e, refl) | inr e ↦ inl e ];
          },
        )
        | inr none ↦ (
          Sent true,
          same_wire (Sent true) p i (λ q j. elim (one_or_zero (put q) (k q j)) [
            | inl e ↦ e
            | inr e ↦ absurd (none q (bounded q j) j e)
          ]),
        )
      ]

  wire_of_kind : (p : ℕ) → In p live → ((q r : ℕ) (b c : Bool) → In q live → In r live → put q ≡ Heard b → put r ≡ Heard c → b ≡ c) → (x : Item) → put p ≡ x → ((q : ℕ) → In q live → kind_of (put q) ≡ kind_of x) → (w : Item) × IsWire live put w
  wire_of_kind p i h (Sent b) e k = sent_wire p i k
  wire_of_kind p i h (Heard b) e k =
      (Heard b, same_wire (Heard b) p i (λ q j. let c = heard_bit (put q) (k q j) in c.1 ∙ ap Heard (h q p c.0 b j i c.1 e)))
  wire_of_kind p i h x e k =
      (x, same_wire x p i (λ q j. item_of_kind (put q) x (k q j) (λ d. cc) (λ d. cc)))

  -- a round without a clash has one wire
  pub has_one_wire : (p : ℕ) → In p live → ((q r : ℕ) (b c : Bool) → In q live → In r live → put q ≡ Heard b → put r ≡ Heard c → b ≡ c) → NoClash live put → HasOneWire live put
  has_one_wire p i h c =
      let w = wire_of_kind p i h (put p) refl (λ q j. elim (either (q == p)) [
        | inl same ↦ let e : q ≡ p = grind (arith, nat_tests) in ap (λ (r : ℕ). kind_of (put r)) e
        | inr other ↦ let e : q ≢ p = grind (arith, nat_tests) in one_kind (kind_of (put q)) (kind_of (put p)) (c q p e j i)
      ]) in
      (w.0, w.1, λ v a. one_wire live put w.0 v w.1 a)

-- ---- in a safe plan

-- what goes on has not ended
pub not_ended : (plan : Contents) (p : ℕ) (u : List Item) (x : Item) → Offers plan p u x → HasEnded u → ⊥
not_ended plan p u x o (v, inl e) =
    let t : Text plan p ((v ++ Stop ∷ []) ++ x ∷ o.0) = subst (λ (w : List Item). Text plan p (w ++ x ∷ o.0)) e o.1 in
    let none : x ∷ o.0 ≡ [] = nothing_after plan p v (x ∷ o.0) Stop refl t in
    cc
not_ended plan p u x o (v, inr e) =
    let t : Text plan p ((v ++ Claim ∷ []) ++ x ∷ o.0) = subst (λ (w : List Item). Text plan p (w ++ x ∷ o.0)) e o.1 in
    let none : x ∷ o.0 ≡ [] = nothing_after plan p v (x ∷ o.0) Claim refl t in
    cc

module _ (plan : Contents) (s : Set) (u : List Item) (live : Set) (safe : IsSafe plan) (reached : IsReached plan s u live) where
  -- no two who are live may put items that clash
  pub never_clash : (x y : Item) (p q : ℕ) → p ≢ q → In p live → In q live → Offers plan p u x → Offers plan q u y → Clash x y → ⊥
  never_clash x y p q n i j f g c =
      elim (cases_lt p q) [
        | inl lt ↦ safe s reached.0 (u, p, q, kind_of x, kind_of y, record { live = live; reached = reached.1; in_order = lt; first = i; second = j; first_offers = (x, f, refl); second_offers = (y, g, refl); clash = c })
        | inr le ↦ safe s reached.0 (u, q, p, kind_of y, kind_of x, record { live = live; reached = reached.1; in_order = omega arith; first = j; second = i; first_offers = (y, g, refl); second_offers = (x, f, refl); clash = clash_swaps (kind_of x) (kind_of y) c })
      ]

  pub round_never_clashes : (put : ℕ → Item) → IsRound plan u live put → NoClash live put
  round_never_clashes put o p q n i j c = never_clash (put p) (put q) p q n i j (o.offered p i) (o.offered q j) c

  -- where one may hear, all may hear either bit
  pub all_hear : ((q : ℕ) → In q live → Follows plan q u) → (p : ℕ) (b c : Bool) → In p live → Offers plan p u (Heard b) → IsRound plan u live (λ _. Heard c)
  all_hear follows p b c i o =
      record {
        offered = λ q j. elim (either (q == p)) [
          | inl same ↦ let e : q ≡ p = grind (arith, nat_tests) in subst (λ (r : ℕ). Offers plan r u (Heard c)) (sym e) ((fair_text plan p).both u o.0 b c o.1)
          | inr other ↦
              let e : q ≢ p = grind (arith, nat_tests) in
              let x = offers_some plan q u (not_ended plan p u (Heard b) o) (follows q j) in
              let h = heard_bit x.0 (one_kind (kind_of x.0) kind.Heard (λ k. never_clash x.0 (Heard b) q p e j i x.1 o k)) in
              let t = subst (Offers plan q u) h.1 x.1 in
              (fair_text plan q).both u t.0 h.0 c t.1
        ];
        heard = λ q r d e h k f g. cc;
      }

  -- the next slot of a round without a clash
  next_of : (put : ℕ → Item) → IsRound plan u live put → (p : ℕ) → In p live → HasNext plan u live
  next_of put o p i =
      let n = round_never_clashes put o in
      let w = has_one_wire (participant_count plan) live (λ q j. reached.0.participants q (still_in reached.1 q j)) put p i o.heard n in
      (put, w.0, record { is_round = o; no_clash = n; is_wire = w.1 })

  by_item : ((q : ℕ) → In q live → Follows plan q u) → (put : ℕ → Item) → ((p : ℕ) → In p live → Offers plan p u (put p)) → (p : ℕ) → In p live → (x : Item) → put p ≡ x → HasNext plan u live
  by_item follows put o p i (Heard b) e =
      next_of (λ _. Heard false) (all_hear follows p b false i (subst (Offers plan p u) e (o p i))) p i
  by_item follows put o p i x e =
      let no_heard : (q : ℕ) (b : Bool) → In q live → put q ≡ Heard b → ⊥ = λ q b j h. elim (either (q == p)) [
        | inl same ↦ let d : q ≡ p = grind (arith, nat_tests) in let k : put q ≡ put p = ap put d in cc
        | inr other ↦
            let d : q ≢ p = grind (arith, nat_tests) in
            never_clash (put q) (put p) q p d j i (o q j) (o p i) (inl (λ k. let a : kind_of (put q) ≡ kind.Heard = ap kind_of h in let c : kind_of (put p) ≡ kind_of x = ap kind_of e in cc))
      ] in
      next_of put (record { offered = o; heard = λ q r b c j k f g. absurd (no_heard q b j f) }) p i

  pub goes_on : ((q : ℕ) → In q live → Follows plan q u) → (HasEnded u → ⊥) → (p : ℕ) → In p live → HasNext plan u live
  goes_on follows n p i =
      let offer : (q : ℕ) → In q live → (x : Item) × Offers plan q u x = λ q j. offers_some plan q u n (follows q j) in
      let put : ℕ → Item = λ q. chosen {P = Offers plan q u} (live q) (offer q) in
      let o : (q : ℕ) → In q live → Offers plan q u (put q) = λ q j. chosen_passes {P = Offers plan q u} (live q) (offer q) j in
      by_item follows put o p i (put p) refl
