-- Plays go on: what holds of each, and what a put does to one.
use Rattle.std.proofs.Common.{◌≡◌, ◌≢◌, ℕ, ◌+◌, ◌<◌, ◌≤◌, ◌⊎◌, inl, inr, Bool, true, false, ◌&&◌, ◌||◌, ◌==◌, List, [], ◌∷◌, ◌++◌, length, length-append, take, refl, ap, sym, ◌∙◌, subst, append_assoc, append-nil, get_or, arith}
use Rattle.std.proofs.lemmas.Bool.{cases_lt}
use Rattle.std.proofs.lemmas.Bool.Decides.{nat_tests}
use Rattle.std.proofs.lemmas.List.{take-append-le}
use Rattle.std.proofs.Math.ListN.{get_or-append}
use Rattle.std.proofs.Math.Seq.{get_or-append_seam, take-length}
use Rattle.std.specs.List.{list_any}
use Rattle.message_tree.specs.declared.items.Item.{Item}
use Rattle.message_tree.specs.declared.items.Item.TheVariants as item
use Rattle.plan_core.specs.Participants.{participant_count}
use Rattle.plan_core.specs.Lawful.{Set, In}
use Rattle.plan_core.specs.Rounds.{Offers, IsRound, IsSlot, survivors}
use Rattle.plan_core.specs.Runs.{Reaches, start, slot as reach, IsReached, HasEnded, Whole}
use Rattle.plan_core.proofs.Model.{survived, survives, followed_on}
use Rattle.plan_core.proofs.Safety.{not_ended, round_never_clashes, has_one_wire}
use Rattle.plan_core.proofs.Texts.{bounded_text, end_bound}
use Rattle.plays.specs.declared.puts.Put.{Put}
use Rattle.plays.specs.declared.puts.Put.TheVariants.{Drive, Listen, Again, Stop, Claim}
use Rattle.plays.specs.Games.{Game, those, answer_at, IsGame}
use Rattle.plays.specs.Plays.{item_of, Puts, HavePut, put_in, Goes, here, slot, Leads, HasLost, KeepsUp, IsPlay, with_put}

-- ---- what every play is

module _ (game : Game) (puts : Puts) (v : List Item) (among : Set) where
  live_before : {u : List Item} {live : Set} → Goes game puts v among u live → (p : ℕ) → In p live → In p among
  live_before here p h = h
  live_before (slot {v = w} {on} x g _ _) p h = live_before g p (survived on (put_in game puts (length w)) x p h).0

  goes_from : {u : List Item} {live : Set} → Goes game puts v among u live → (rest : List Item) × (u ≡ v ++ rest)
  goes_from here = ([], sym (append-nil v))
  goes_from (slot {v = w} {on} x g _ _) =
      let r = goes_from g in
      (r.0 ++ x ∷ [], ap (λ (y : List Item). y ++ x ∷ []) r.1 ∙ append_assoc v r.0 (x ∷ []))

  stays_there : (p : ℕ) → In p among → length (puts p) ≡ length v → {u : List Item} {live : Set} → Goes game puts v among u live → (u ≡ v) × (live ≡ among)
  stays_there p i e here = (refl, refl)
  stays_there p i e (slot {v = w} {on} x g h _) =
      let k = stays_there p i e g in
      let there : In p on = subst (λ (s : Set). In p s) (sym k.1) i in
      let more : length w < length (puts p) = h p there in
      let same : length w ≡ length v = ap length k.0 in
      absurd (omega arith)

  ended_stays : HasEnded v → {u : List Item} {live : Set} → Goes game puts v among u live → u ≡ v
  ended_stays e here = refl
  ended_stays e (slot {v = w} {on} x g _ o) =
      let same = ended_stays e g in
      let one = o.is_wire.some in
      absurd (not_ended game.plan one.0 w (put_in game puts (length w) one.0) (o.is_round.offered one.0 one.1) (subst HasEnded (sym same) e))

-- one who is live was live before
pub was_in : (game : Game) (puts : Puts) (v u : List Item) (among live : Set) (p : ℕ) → Goes game puts v among u live → In p live → In p among
was_in game puts v u among live p g h = live_before game puts v among g p h

-- a state that is passed lies on the wire
pub is_prefix : (game : Game) (puts : Puts) (v u : List Item) (among live : Set) → Goes game puts v among u live → (rest : List Item) × (u ≡ v ++ rest)
is_prefix game puts v u among live g = goes_from game puts v among g

-- a live participant that has put in no slot after the state (v, among): the play has led no further
pub not_further : (game : Game) (puts : Puts) (v u : List Item) (among live : Set) (p : ℕ) →
    Goes game puts v among u live → In p among → length (puts p) ≡ length v → (u ≡ v) × (live ≡ among)
not_further game puts v u among live p g i e = stays_there game puts v among p i e g

-- at an ended wire nothing follows
pub ended_goes_no_further : (game : Game) (puts : Puts) (v u : List Item) (among live : Set) → IsGame game → HasEnded v → Goes game puts v among u live → u ≡ v
ended_goes_no_further game puts v u among live is e g = ended_stays game puts v among e g

-- a play is a run of its starters
pub is_reached : (game : Game) (puts : Puts) (u : List Item) (live : Set) → Leads game puts u live → Reaches game.plan (those game.starters) u live
is_reached game puts _ _ here = start
is_reached game puts _ _ (slot {v} {on} w g _ o) = reach (put_in game puts (length v)) w (is_reached game puts v on g) o

-- who is live at the end stands whole on the wire
pub is_whole : (game : Game) (puts : Puts) (u : List Item) (live : Set) (p : ℕ) → Leads game puts u live → HasEnded u → In p live → Whole game.plan p u
is_whole game puts u live p g e i = end_bound game.plan p u e (followed_on (is_reached game puts u live g) p i)

pub has_room : (game : Game) (p : ℕ) (u : List Item) (x : Item) → IsGame game → Offers game.plan p u x → length u < 2560
has_room game p u x is o =
    let b : length (u ++ x ∷ o.0) ≤ 2560 = bounded_text game.plan p (u ++ x ∷ o.0) is.short o.1 in
    omega (arith, length-append u (x ∷ o.0))

-- before any put
pub start_is_play : (game : Game) → IsGame game → IsPlay game (λ p. []) [] (those game.starters)
start_is_play game is =
    record {
      led = here;
      last = (is.lawful.some.0, is.lawful.some.1, refl);
      offered = λ p k i lt. absurd (omega arith);
      lost = λ p i n. cc;
      keeps_up = λ p i. inl refl;
      others = λ p n. refl;
    }

-- ---- one put more

pub either : (b : Bool) → (b ≡ true) ⊎ (b ≡ false)
either true = inl refl
either false = inr refl

pub put_here : (puts : Puts) (p : ℕ) (x : Put) → with_put puts p x p ≡ puts p ++ x ∷ []
put_here puts p x = grind (arith, nat_tests)

pub put_there : (puts : Puts) (p q : ℕ) (x : Put) → q ≢ p → with_put puts p x q ≡ puts q
put_there puts p q x n = grind (arith, nat_tests)

pub same_or_other : (q p : ℕ) → (q ≡ p) ⊎ (q ≢ p)
same_or_other q p = elim (either (q == p)) [
  | inl same ↦ let e : q ≡ p = grind (arith, nat_tests) in inl e
  | inr other ↦ let e : q ≢ p = grind (arith, nat_tests) in inr e
]

module _ (game : Game) (puts : Puts) (p : ℕ) (x : Put) where
  after : Puts
  after = with_put puts p x

  length_here : length (after p) ≡ length (puts p) + 1
  unfolding after
  length_here = omega (arith, ap length (put_here puts p x), length-append (puts p) (x ∷ []))

  length_there : (q : ℕ) → q ≢ p → length (after q) ≡ length (puts q)
  unfolding after
  length_there q n = ap length (put_there puts p q x n)

  grows : (q : ℕ) → length (puts q) ≤ length (after q)
  grows q = elim (same_or_other q p) [
    | inl e ↦ subst (λ (r : ℕ). length (puts r) ≤ length (after r)) (sym e) (omega (arith, length_here))
    | inr n ↦ omega (arith, length_there q n)
  ]

  put_in_there : (k q : ℕ) → q ≢ p → put_in game after k q ≡ put_in game puts k q
  unfolding after
  put_in_there k q n = ap (λ (l : List Put). item_of game.answers k (get_or l k Listen)) (put_there puts p q x n)

  put_in_here : put_in game after (length (puts p)) p ≡ item_of game.answers (length (puts p)) x
  unfolding after
  put_in_here =
      ap (λ (l : List Put). item_of game.answers (length (puts p)) (get_or l (length (puts p)) Listen)) (put_here puts p x)
      ∙ ap (item_of game.answers (length (puts p))) (get_or-append_seam (puts p) x [] Listen)

  put_in_before : (k q : ℕ) → k < length (puts p) → put_in game after k q ≡ put_in game puts k q
  unfolding after
  put_in_before k q lt = elim (same_or_other q p) [
    | inl e ↦ subst (λ (r : ℕ). put_in game after k r ≡ put_in game puts k r) (sym e) (
        ap (λ (l : List Put). item_of game.answers k (get_or l k Listen)) (put_here puts p x)
        ∙ ap (item_of game.answers k) (get_or-append (puts p) (x ∷ []) Listen k lt))
    | inr n ↦ put_in_there k q n
  ]

  -- as functions
  slot_before : (k : ℕ) → k < length (puts p) → put_in game after k ≡ put_in game puts k
  slot_before k lt = λ i q. put_in_before k q lt i

  -- states up to the slot of the new put are passed still
  carried : (v : List Item) (among : Set) {u : List Item} {live : Set} → Goes game puts v among u live → length u ≤ length (puts p) → Goes game after v among u live
  carried v among here le = here
  carried v among (slot {v = w} {on} y g h o) le =
      let lt : length w < length (puts p) = omega (arith, length-append w (y ∷ [])) in
      let e = slot_before (length w) lt in
      let there : HavePut after on (length w) = λ q i. let old : length w < length (puts q) = h q i in omega (arith, grows q) in
      subst (λ (f : ℕ → Item). Goes game after v among (w ++ y ∷ []) (survivors on f y)) e
      (slot y (carried v among g (omega arith)) there (subst (λ (f : ℕ → Item). IsSlot game.plan w on f y) (sym e) o))

-- ---- the starters, by their list

both_true : (a b : Bool) → a && b ≡ true → (a ≡ true) × (b ≡ true)
both_true true true h = (refl, refl)
both_true _ _ h = cc

or_false : (a b : Bool) → a || b ≡ false → (a ≡ false) × (b ≡ false)
or_false true b h = cc
or_false false b h = (refl, h)

pub or_true : (a b : Bool) → a || b ≡ true → (a ≡ true) ⊎ (b ≡ true)
or_true true b h = inl refl
or_true false b h = inr h

pub or_right : (a b : Bool) → b ≡ true → a || b ≡ true
or_right true b h = refl
or_right false b h = h

pub any_found : (f : ℕ → Bool) (xs : List ℕ) → list_any f xs ≡ true → (q : ℕ) × (f q ≡ true)
any_found f [] h = cc
any_found f (y ∷ ys) h = elim (or_true (f y) (list_any f ys) h) [ inl e ↦ (y, e) | inr e ↦ any_found f ys e ]

pub any_none : (f : ℕ → Bool) (xs : List ℕ) (q : ℕ) → list_any f xs ≡ false → In q (those xs) → f q ≡ false
any_none f [] q n i = cc
any_none f (y ∷ ys) q n i =
    let no = or_false (f y) (list_any f ys) n in
    elim (or_true (y == q) (those ys q) i) [
      | inl same ↦ let e : y ≡ q = grind (arith, nat_tests) in subst (λ (r : ℕ). f r ≡ false) e no.0
      | inr later ↦ any_none f ys q no.1 later
    ]

-- ---- a put in a play

-- what holds of the starters' puts where they have led to u: it is not asked whether the next slot is complete
record PutsAt (game : Game) (puts : Puts) (u : List Item) (live : Set) : Type 0 where
  led : Leads game puts u live
  offered : (q k : ℕ) → In q (those game.starters) → k < length (puts q) → Offers game.plan q (take k u) (put_in game puts k q)
  lost : (q : ℕ) → In q (those game.starters) → live q ≡ false → HasLost game puts u q
  keeps_up : (q : ℕ) → In q live → KeepsUp puts u q
  others : (q : ℕ) → those game.starters q ≡ false → puts q ≡ []

-- nobody has put after the slot that follows
few_puts : (game : Game) (puts : Puts) (u : List Item) (live : Set) → PutsAt game puts u live → (q : ℕ) → In q (those game.starters) → length (puts q) ≤ length u + 1
few_puts game puts u live m q i = elim (either (live q)) [
  | inl there ↦ elim (m.keeps_up q there) [ inl e ↦ omega arith | inr e ↦ let k : length (puts q) ≡ length u + 1 = e.0 in omega arith ]
  | inr gone ↦
      let h = m.lost q i gone in
      omega (arith, h.puts_made, ap length h.wire, length-append h.before (h.shown ∷ h.rest))
]

pub heard_is_the_answer : (answers : List Bool) (k : ℕ) (x : Put) (b : Bool) → item_of answers k x ≡ item.Heard b → answer_at answers k ≡ b
heard_is_the_answer answers k Listen b e = cc
heard_is_the_answer answers k (Drive c) b e = cc
heard_is_the_answer answers k Again b e = cc
heard_is_the_answer answers k Stop b e = cc
heard_is_the_answer answers k Claim b e = cc

-- where all who are live have put in the next slot, it is complete, and the play goes on to it
record Next (game : Game) (puts : Puts) (u : List Item) (live : Set) : Type 0 where
  shown : Item
  have_put : HavePut puts live (length u)
  is_slot : IsSlot game.plan u live (put_in game puts (length u)) shown
  play : IsPlay game puts (u ++ shown ∷ []) (survivors live (put_in game puts (length u)) shown)

module _ (game : Game) (puts : Puts) (u : List Item) (live : Set) (is : IsGame game) (m : PutsAt game puts u live) (p : ℕ) (p_live : In p live) where
  in_starters : (q : ℕ) → In q live → In q (those game.starters)
  in_starters q i = was_in game puts [] u (those game.starters) live q m.led i

  put : ℕ → Item
  put = put_in game puts (length u)

  module _ (all : (q : ℕ) → In q live → length (puts q) ≡ length u + 1) where
    the_round : IsRound game.plan u live put
    unfolding put
    the_round =
        record {
          offered = λ q i. subst (λ (w : List Item). Offers game.plan q w (put q)) (take-length u) (m.offered q (length u) (in_starters q i) (omega (arith, all q i)));
          heard = λ q r b c i j e f. sym (heard_is_the_answer game.answers (length u) (get_or (puts q) (length u) Listen) b e) ∙ heard_is_the_answer game.answers (length u) (get_or (puts r) (length u) Listen) c f;
        }

    the_slot : (w : Item) × IsSlot game.plan u live put w
    unfolding put
    the_slot =
        let reached : IsReached game.plan (those game.starters) u live = (is.lawful, is_reached game puts u live m.led) in
        let n = round_never_clashes game.plan (those game.starters) u live is.safe reached put the_round in
        let one = has_one_wire (participant_count game.plan) live (λ q i. is.lawful.participants q (in_starters q i)) put p p_live the_round.heard n in
        (one.0, record { is_round = the_round; no_clash = n; is_wire = one.1 })

    completed : Next game puts u live
    unfolding put
    completed =
        let w = the_slot.0 in
        let slot_here = the_slot.1 in
        let have_put : HavePut puts live (length u) = λ q i. omega (arith, all q i) in
        let one_more : length (u ++ w ∷ []) ≡ length u + 1 = omega (arith, length-append u (w ∷ [])) in
        let someone = slot_here.is_wire.some in
        let prefix : (q k : ℕ) → In q (those game.starters) → k < length (puts q) → take k (u ++ w ∷ []) ≡ take k u = λ q k i lt. take-append-le k u (w ∷ []) (omega (arith, few_puts game puts u live m q i)) in
        record {
          shown = w;
          have_put = have_put;
          is_slot = slot_here;
          play = record {
            led = slot w m.led have_put slot_here;
            last = (someone.0, survives live put w someone.0 someone.1 someone.2, all someone.0 someone.1 ∙ sym one_more);
            offered = λ q k i lt. subst (λ (v : List Item). Offers game.plan q v (put_in game puts k q)) (sym (prefix q k i lt)) (m.offered q k i lt);
            lost = λ q i gone. elim (either (live q)) [
              | inl there ↦ record {
                before = u;
                live = live;
                shown = w;
                rest = [];
                wire = refl;
                led = m.led;
                was_live = there;
                other = λ e. let stays : In q (survivors live put w) = survives live put w q there e in cc;
                puts_made = all q there;
              }
              | inr before ↦
                  let h = m.lost q i before in
                  record {
                    before = h.before;
                    live = h.live;
                    shown = h.shown;
                    rest = h.rest ++ w ∷ [];
                    wire = ap (λ (v : List Item). v ++ w ∷ []) h.wire ∙ append_assoc h.before (h.shown ∷ h.rest) (w ∷ []);
                    led = h.led;
                    was_live = h.was_live;
                    other = h.other;
                    puts_made = h.puts_made;
                  }
            ];
            keeps_up = λ q i. inl (all q (survived live put w q i).0 ∙ sym one_more);
            others = m.others;
          };
        }

-- what a put does to a play: it is a play again, and states that were passed are passed still
pub record PutOn (game : Game) (puts after : Puts) (u : List Item) (live : Set) : Type 0 where
  pub wire : List Item
  pub on : Set
  pub play : IsPlay game after wire on
  pub passes : (v : List Item) (among : Set) → Leads game puts v among → Goes game puts v among u live → Leads game after v among × Goes game after v among wire on

-- one more of the starters puts what it offers
with_one_more : (game : Game) (puts : Puts) (u : List Item) (live : Set) (p : ℕ) (x : Put) → IsPlay game puts u live → In p live → length (puts p) ≡ length u →
    Offers game.plan p u (item_of game.answers (length u) x) → PutsAt game (with_put puts p x) u live
unfolding after
with_one_more game puts u live p x play p_live level o =
    let next : Puts = with_put puts p x in
    let started : (q : ℕ) → In q live → In q (those game.starters) = λ q i. was_in game puts [] u (those game.starters) live q play.led i in
    let here_put : put_in game next (length u) p ≡ item_of game.answers (length u) x = subst (λ (n : ℕ). put_in game next n p ≡ item_of game.answers n x) level (put_in_here game puts p x) in
    let offered_here : (k : ℕ) → k < length (next p) → Offers game.plan p (take k u) (put_in game next k p) = λ k lt. elim (cases_lt k (length u)) [
      | inl below ↦ subst (Offers game.plan p (take k u)) (sym (put_in_before game puts p x k p (omega arith))) (play.offered p k (started p p_live) (omega arith))
      | inr above ↦
          let now : k ≡ length u = omega (arith, length_here game puts p x) in
          subst (λ (n : ℕ). Offers game.plan p (take n u) (put_in game next n p)) (sym now)
          (subst (λ (w : List Item). Offers game.plan p w (put_in game next (length u) p)) (sym (take-length u))
          (subst (Offers game.plan p u) (sym here_put) o))
    ] in
    record {
      led = carried game puts p x [] (those game.starters) play.led (omega arith);
      offered = λ q k i lt. elim (same_or_other q p) [
        | inl e ↦ subst (λ (r : ℕ). Offers game.plan r (take k u) (put_in game next k r)) (sym e) (offered_here k (subst (λ (r : ℕ). k < length (next r)) e lt))
        | inr n ↦ subst (Offers game.plan q (take k u)) (sym (put_in_there game puts p x k q n)) (play.offered q k i (omega (arith, length_there game puts p x q n)))
      ];
      lost = λ q i gone.
          let n : q ≢ p = λ e. let both : live q ≡ live p = ap live e in cc in
          let h = play.lost q i gone in
          record {
            before = h.before;
            live = h.live;
            shown = h.shown;
            rest = h.rest;
            wire = h.wire;
            was_live = h.was_live;
            led = carried game puts p x [] (those game.starters) h.led (omega (arith, ap length h.wire, length-append h.before (h.shown ∷ h.rest)));
            other = λ e. h.other (sym (put_in_there game puts p x (length h.before) q n) ∙ e);
            puts_made = length_there game puts p x q n ∙ h.puts_made;
          };
      keeps_up = λ q i. elim (same_or_other q p) [
        | inl e ↦ inr (subst (λ (r : ℕ). length (next r) ≡ length u + 1) (sym e) (omega (arith, length_here game puts p x)), not_ended game.plan p u (item_of game.answers (length u) x) o)
        | inr n ↦ elim (play.keeps_up q i) [ inl e ↦ inl (length_there game puts p x q n ∙ e) | inr e ↦ inr (length_there game puts p x q n ∙ e.0, e.1) ]
      ];
      others = λ q out.
          let n : q ≢ p = λ e. let both : those game.starters q ≡ those game.starters p = ap (those game.starters) e in let inside : those game.starters p ≡ true = started p p_live in cc in
          put_there puts p q x n ∙ play.others q out;
    }

-- who is live, and has not put in the next slot
waits : Puts → List Item → Set → ℕ → Bool
waits puts u live q = live q && (length (puts q) == length u)

waiting : (puts : Puts) (u : List Item) (live : Set) (q : ℕ) → waits puts u live q ≡ true → In q live × (length (puts q) ≡ length u)
unfolding waits
waiting puts u live q h =
    let b = both_true (live q) (length (puts q) == length u) h in
    let e : length (puts q) ≡ length u = let t = b.1 in grind (arith, nat_tests) in
    (b.0, e)

not_waiting : (puts : Puts) (u : List Item) (live : Set) (q : ℕ) → waits puts u live q ≡ false → In q live → length (puts q) ≢ length u
unfolding waits
not_waiting puts u live q h i e = grind (arith, nat_tests)

pub put_is_play : (game : Game) (puts : Puts) (u : List Item) (live : Set) (p : ℕ) (x : Put) →
    IsGame game → IsPlay game puts u live → In p live → length (puts p) ≡ length u →
    Offers game.plan p u (item_of game.answers (length u) x) → PutOn game puts (with_put puts p x) u live
unfolding after
put_is_play game puts u live p x is play p_live level o =
    let next : Puts = with_put puts p x in
    let m = with_one_more game puts u live p x play p_live level o in
    let started : (q : ℕ) → In q live → In q (those game.starters) = λ q i. was_in game puts [] u (those game.starters) live q play.led i in
    let still : (v : List Item) (among : Set) → Leads game puts v among → Goes game puts v among u live → Leads game next v among × Goes game next v among u live = λ v among l g.
    let r = is_prefix game puts v u among live g in
    (carried game puts p x [] (those game.starters) l (omega (arith, ap length r.1, length-append v r.0)), carried game puts p x v among g (omega arith)) in
    elim (either (list_any (waits next u live) game.starters)) [
      | inl somebody_waits ↦
          let q = any_found (waits next u live) game.starters somebody_waits in
          let w = waiting next u live q.0 q.1 in
          record {
            wire = u;
            on = live;
            passes = still;
            play = record { led = m.led; last = (q.0, w.0, w.1); offered = m.offered; lost = m.lost; keeps_up = m.keeps_up; others = m.others };
          }
      | inr nobody_waits ↦
          let all : (q : ℕ) → In q live → length (next q) ≡ length u + 1 = λ q i. elim (m.keeps_up q i) [
            | inl e ↦ absurd (not_waiting next u live q (any_none (waits next u live) game.starters q nobody_waits (started q i)) i e)
            | inr e ↦ e.0
          ] in
          let c = completed game next u live is m p p_live all in
          record {
            wire = u ++ c.shown ∷ [];
            on = survivors live (put_in game next (length u)) c.shown;
            play = c.play;
            passes = λ v among l g. let s = still v among l g in (s.0, slot c.shown s.1 c.have_put c.is_slot);
          }
    ]
