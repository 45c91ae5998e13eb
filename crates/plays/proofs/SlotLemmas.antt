-- What the word of a slot tells a state that the play has passed.
use Rattle.std.proofs.Common.{◌≡◌, ◌≢◌, ℕ, ◌+◌, ◌<◌, ◌≤◌, ◌⊎◌, inl, inr, Bool, true, false, if◌then◌else◌, ◌&&◌, ◌==◌, Option, Some, None, List, [], ◌∷◌, ◌++◌, length, length-append, slice_get, get_or, refl, ap, sym, ◌∙◌, subst, arith}
use Rattle.std.proofs.lemmas.Bool.{cases_lt}
use Rattle.std.proofs.lemmas.Bool.Decides.{nat_tests}
use Rattle.std.proofs.lemmas.Option.{slice_get-get_or, slice_get_past}
use Rattle.std.proofs.Math.ListN.{get_or-append}
use Rattle.std.proofs.Math.Seq.{get_or-append_seam}
use Rattle.message_tree.specs.declared.items.Item.{Item}
use Rattle.message_tree.specs.declared.items.Item.TheVariants as item
use Rattle.plan_core.specs.Lawful.{Set, In}
use Rattle.plan_core.specs.Rounds.{IsSlot, is_item, survivors}
use Rattle.plan_core.proofs.Model.{survived, survives}
use Rattle.plays.specs.declared.puts.Put.{Put}
use Rattle.plays.specs.declared.puts.Put.TheVariants.{Drive, Listen, Again, Stop, Claim}
use Rattle.plays.specs.declared.tally.TheConstants.{AGAIN, STOP, LISTEN, CLAIM}
use Rattle.plays.specs.Games.{Game, those, answer_at, IsGame}
use Rattle.plays.specs.Plays.{item_of, Puts, HavePut, put_in, Goes, here, slot, Leads, IsPlay}
pub use Rattle.plays.specs.Words.{count_in}
use Rattle.plays.specs.Words.{word_of, arrivals_in, zeros_in, field, shown_in, left_in}
use Rattle.plays.proofs.PlayLemmas.{either, was_in, is_prefix, heard_is_the_answer}
use Rattle.plays.proofs.FieldLemmas.{count_same, count_none, count_some, count_less, any_put, field_of, counts_in, passes, counted, fields}

-- ---- the first slot after a state

pub record First (game : Game) (puts : Puts) (v : List Item) (among : Set) (u : List Item) (live : Set) : Type 0 where
  pub shown : Item
  pub have_put : HavePut puts among (length v)
  pub is_slot : IsSlot game.plan v among (put_in game puts (length v)) shown
  pub goes : Goes game puts (v ++ shown ∷ []) (survivors among (put_in game puts (length v)) shown) u live

module _ (game : Game) (puts : Puts) (v : List Item) (among : Set) where
  -- the state (x, on) is (v, among) itself
  from_here : (w : Item) (x : List Item) (on : Set) → v ≡ x → among ≡ on → HavePut puts on (length x) → IsSlot game.plan x on (put_in game puts (length x)) w →
      First game puts v among (x ++ w ∷ []) (survivors on (put_in game puts (length x)) w)
  from_here w x on e d =
      subst (λ (y : List Item). HavePut puts on (length y) → IsSlot game.plan y on (put_in game puts (length y)) w → First game puts v among (y ++ w ∷ []) (survivors on (put_in game puts (length y)) w)) e
      (subst (λ (s : Set). HavePut puts s (length v) → IsSlot game.plan v s (put_in game puts (length v)) w → First game puts v among (v ++ w ∷ []) (survivors s (put_in game puts (length v)) w)) d
      (λ h o. record { shown = w; have_put = h; is_slot = o; goes = here }))

  pub first_slot : {u : List Item} {live : Set} → Goes game puts v among u live → ((v ≡ u) × (among ≡ live)) ⊎ First game puts v among u live
  first_slot here = inl (refl, refl)
  first_slot (slot {v = x} {on} w g h o) = elim (first_slot g) [
    | inl same ↦ inr (from_here w x on same.0 same.1 h o)
    | inr f ↦ inr (record { shown = f.shown; have_put = f.have_put; is_slot = f.is_slot; goes = slot w f.goes h o })
  ]

-- ---- who is live has put just the wire

module _ (game : Game) (puts : Puts) where
  on_wire : {u : List Item} {live : Set} → Leads game puts u live → (p k : ℕ) → In p live → k < length u → put_in game puts k p ≡ get_or u k item.Stop
  on_wire here p k i lt = absurd (omega arith)
  on_wire (slot {v} {on} w g _ _) p k i lt =
      let s = survived on (put_in game puts (length v)) w p i in
      elim (cases_lt k (length v)) [
        | inl below ↦ on_wire g p k s.0 below ∙ sym (get_or-append v (w ∷ []) item.Stop k below)
        | inr above ↦
            let now : length v ≡ k = omega (arith, length-append v (w ∷ [])) in
            subst (λ (n : ℕ). put_in game puts n p ≡ get_or (v ++ w ∷ []) n item.Stop) now (s.1 ∙ sym (get_or-append_seam v w [] item.Stop))
      ]

  still_live : {u : List Item} {live : Set} → Leads game puts u live → (p : ℕ) → In p (those game.starters) → ((k : ℕ) → k < length u → put_in game puts k p ≡ get_or u k item.Stop) → In p live
  still_live here p i same = i
  still_live (slot {v} {on} w g _ _) p i same =
      let longer : length (v ++ w ∷ []) ≡ length v + 1 = omega (arith, length-append v (w ∷ [])) in
      let before : In p on = still_live g p i (λ k lt. same k (omega arith) ∙ get_or-append v (w ∷ []) item.Stop k lt) in
      survives on (put_in game puts (length v)) w p before (same (length v) (omega arith) ∙ get_or-append_seam v w [] item.Stop)

  -- of two states on one wire, who is live at the later was live at the earlier
  only_shrinks : (u before v rest more : List Item) (late early : Set) (p : ℕ) → u ≡ before ++ rest → u ≡ v ++ more → length v ≤ length before → Leads game puts before late → Leads game puts v early → In p late → In p early
  only_shrinks u before v rest more late early p e d le g f i =
      still_live f p (was_in game puts [] before (those game.starters) late p g i) (λ k lt.
      on_wire g p k i (omega arith)
      ∙ sym (get_or-append before rest item.Stop k (omega arith))
      ∙ ap (λ (w : List Item). get_or w k item.Stop) (sym e ∙ d)
      ∙ get_or-append v more item.Stop k lt)

-- ---- who has put in the slot after a state

module _ (game : Game) (puts : Puts) (v u : List Item) (among live : Set) (play : IsPlay game puts u live) (led : Leads game puts v among) (goes : Goes game puts v among u live) where
  -- who dropped out before has not put there
  has_not_put : (p : ℕ) → In p (those game.starters) → among p ≡ false → length (puts p) ≤ length v
  has_not_put p i out =
      let gone : live p ≡ false = elim (either (live p)) [
        | inl there ↦ let k : among p ≡ true = was_in game puts v u among live p goes there in cc
        | inr out_there ↦ out_there
      ] in
      let h = play.lost p i gone in
      let r = is_prefix game puts v u among live goes in
      elim (cases_lt (length h.before) (length v)) [
        | inl early ↦ omega (arith, h.puts_made)
        | inr late ↦
            let k : among p ≡ true = only_shrinks game puts u h.before v (h.shown ∷ h.rest) r.0 h.live among p h.wire r.1 (omega arith) h.led led h.was_live in
            cc
      ]

-- what p put in slot k
seen : (l : List Put) (k : ℕ) → k < length l → slice_get l k ≡ Some (get_or l k Listen)
seen l k lt = slice_get-get_or l k Listen lt

passes_none : (t : Put → Bool) (o : Option Put) → o ≡ None → passes t o ≡ false
unfolding passes
passes_none t o e = ap (passes t) e

passes_some : (t : Put → Bool) (o : Option Put) (x : Put) → o ≡ Some x → passes t o ≡ t x
unfolding passes
passes_some t o x e = ap (passes t) e

passes_any : (o : Option Put) → passes any_put o ≡ true → o ≢ None
unfolding passes
passes_any None h e = cc
passes_any (Some x) h e = cc

-- the play has led just here, and somebody has not put yet
open_slot : (game : Game) (puts : Puts) (u : List Item) (live : Set) → IsPlay game puts u live → counted any_put game.starters puts (length u) < count_in game.starters live
unfolding counted
open_slot game puts u live play =
    let q = play.last in
    let k : ℕ = length u in
    count_less (λ p. passes any_put (slice_get (puts p) k)) live game.starters q.0
    (λ p i h. elim (either (live p)) [
      | inl there ↦ there
      | inr gone ↦ absurd (passes_any (slice_get (puts p) k) h (slice_get_past (puts p) k (has_not_put game puts u u live live play play.led here p i gone)))
    ])
    (was_in game puts [] u (those game.starters) live q.0 play.led q.1)
    (passes_none any_put (slice_get (puts q.0) k) (slice_get_past (puts q.0) k (omega (arith, q.2))))
    q.1

-- ---- a complete slot

-- the field in which a put of this item counts
item_field : Item → ℕ
item_field (item.Sent true) = 0
item_field (item.Sent false) = 1
item_field item.Again = 2
item_field item.Stop = 3
item_field (item.Heard b) = 4
item_field item.Claim = 5

is_in : ℕ → Item → Bool
is_in n w = item_field w == n

-- t tells of a put what i tells of its item
Tells : List Bool → ℕ → (Put → Bool) → (Item → Bool) → Type 0
Tells answers k t i = (x : Put) → t x ≡ i (item_of answers k x)

module _ (answers : List Bool) (k : ℕ) where
  same_field : (x : Put) → field_of x ≡ item_field (item_of answers k x)
  unfolding field_of item_field
  same_field (Drive true) = refl
  same_field (Drive false) = refl
  same_field Listen = refl
  same_field Again = refl
  same_field Stop = refl
  same_field Claim = refl

  tells : (n : ℕ) → Tells answers k (counts_in n) (is_in n)
  unfolding Tells counts_in is_in
  tells n x = ap (λ m. m == n) (same_field x)

-- all of among have put in slot k, and of the others nobody
record Filled (game : Game) (puts : Puts) (among : Set) (k : ℕ) : Type 0 where
  put : (p : ℕ) → In p among → k < length (puts p)
  others : (p : ℕ) → In p (those game.starters) → among p ≡ false → slice_get (puts p) k ≡ None
  started : (p : ℕ) → In p among → In p (those game.starters)

module _ (game : Game) (puts : Puts) (among : Set) (k : ℕ) (f : Filled game puts among k) where
  passes_there : (t : Put → Bool) (p : ℕ) → In p among → passes t (slice_get (puts p) k) ≡ t (get_or (puts p) k Listen)
  passes_there t p i = passes_some t (slice_get (puts p) k) (get_or (puts p) k Listen) (seen (puts p) k (f.put p i))

  all_counted : counted any_put game.starters puts k ≡ count_in game.starters among
  unfolding counted any_put
  all_counted = count_same (λ p. passes any_put (slice_get (puts p) k)) among game.starters (λ p i. elim (either (among p)) [
    | inl there ↦ passes_there any_put p there ∙ sym there
    | inr out ↦ passes_none any_put (slice_get (puts p) k) (f.others p i out) ∙ sym out
  ])

  module _ (t : Put → Bool) (i : Item → Bool) (tells : Tells game.answers k t i) where
    passes_item : (p : ℕ) → In p among → passes t (slice_get (puts p) k) ≡ i (put_in game puts k p)
    unfolding Tells
    passes_item p j = passes_there t p j ∙ tells (get_or (puts p) k Listen)

    -- nobody of among put what passes
    none_counted : ((p : ℕ) → In p among → i (put_in game puts k p) ≡ false) → counted t game.starters puts k ≡ 0
    unfolding counted
    none_counted none = count_none (λ p. passes t (slice_get (puts p) k)) game.starters (λ p j. elim (either (among p)) [
      | inl there ↦ passes_item p there ∙ none p there
      | inr out ↦ passes_none t (slice_get (puts p) k) (f.others p j out)
    ])

    some_counted : (p : ℕ) → In p among → i (put_in game puts k p) ≡ true → 0 < counted t game.starters puts k
    unfolding counted
    some_counted p j e = count_some (λ p. passes t (slice_get (puts p) k)) game.starters p (f.started p j) (passes_item p j ∙ e)

stays_with_zero : (a : Bool) (x : Item) → a ≡ true → (a && is_item x (item.Sent false)) ≡ is_in 1 x
unfolding is_in item_field
stays_with_zero true (item.Sent false) e = refl
stays_with_zero true (item.Sent true) e = refl
stays_with_zero true (item.Heard false) e = refl
stays_with_zero true (item.Heard true) e = refl
stays_with_zero true item.Again e = refl
stays_with_zero true item.Stop e = refl
stays_with_zero true item.Claim e = refl
stays_with_zero false x e = cc

gone_is_gone : (a b : Bool) → a ≡ false → (a && b) ≡ false
gone_is_gone false b e = refl
gone_is_gone true b e = cc

only_zero : (w : Item) → is_in 1 w ≡ true → w ≡ item.Sent false
unfolding is_in item_field
only_zero (item.Sent false) e = refl
only_zero _ e = cc

not_zero : (w : Item) → is_in 1 w ≡ false → w ≢ item.Sent false
unfolding is_in item_field
not_zero w e d = let k : is_in 1 w ≡ true = ap (is_in 1) d in cc

taken : (b : Bool) (x y : ℕ) → b ≡ false → (if b then x else y) ≡ y
taken false x y e = refl
taken true x y e = cc

kept : (b : Bool) (x y : ℕ) → b ≡ true → (if b then x else y) ≡ x
kept true x y e = refl
kept false x y e = cc

is_none : (n : ℕ) → n ≡ 0 → (n == 0) ≡ true
is_none n e = grind (arith, nat_tests)

is_some_here : (n : ℕ) → 0 < n → (n == 0) ≡ false
is_some_here n e = grind (arith, nat_tests)

-- what the word shows, and how many it leaves, where the wire's item is w
record Shows (word : ℕ) (b : Bool) (w : Item) : Type 0 where
  shown : shown_in word b ≡ w
  zeros : (zeros_in word == 0) ≡ (if is_in 1 w then false else true)

module _ (word : ℕ) (b : Bool) where
  shows_zero : 0 < zeros_in word → Shows word b (item.Sent false)
  unfolding is_in item_field
  shows_zero z = let e = is_some_here (zeros_in word) z in record { shown = rw e refl; zeros = e }

  module _ (z : zeros_in word ≡ 0) where
    shows_again : 0 < field AGAIN word → Shows word b item.Again
    unfolding is_in item_field
    shows_again g = let e = is_none (zeros_in word) z in let d = is_some_here (field AGAIN word) g in record { shown = rw (e, d) refl; zeros = e }

    module _ (g : field AGAIN word ≡ 0) where
      shows_stop : 0 < field STOP word → Shows word b item.Stop
      unfolding is_in item_field
      shows_stop s = let e = is_none (zeros_in word) z in let d = is_none (field AGAIN word) g in let f = is_some_here (field STOP word) s in record { shown = rw (e, d, f) refl; zeros = e }

      module _ (s : field STOP word ≡ 0) where
        shows_heard : 0 < field LISTEN word → Shows word b (item.Heard b)
        unfolding is_in item_field
        shows_heard l =
            let e = is_none (zeros_in word) z in
            let d = is_none (field AGAIN word) g in
            let f = is_none (field STOP word) s in
            let h = is_some_here (field LISTEN word) l in
            record { shown = rw (e, d, f, h) refl; zeros = e }

        module _ (l : field LISTEN word ≡ 0) where
          shows_claim : 0 < field CLAIM word → Shows word b item.Claim
          unfolding is_in item_field
          shows_claim c =
              let e = is_none (zeros_in word) z in
              let d = is_none (field AGAIN word) g in
              let f = is_none (field STOP word) s in
              let h = is_none (field LISTEN word) l in
              let i = is_some_here (field CLAIM word) c in
              record { shown = rw (e, d, f, h, i) refl; zeros = e }

          shows_one : field CLAIM word ≡ 0 → Shows word b (item.Sent true)
          unfolding is_in item_field
          shows_one c =
              let e = is_none (zeros_in word) z in
              let d = is_none (field AGAIN word) g in
              let f = is_none (field STOP word) s in
              let h = is_none (field LISTEN word) l in
              let i = is_none (field CLAIM word) c in
              record { shown = rw (e, d, f, h, i) refl; zeros = e }

module _ (game : Game) (puts : Puts) (among : Set) (k : ℕ) (few : length game.starters ≤ 64) (f : Filled game puts among k) where
  word : ℕ
  word = word_of game.starters puts k

  -- all of among put just w
  module _ (w : Item) (some : (p : ℕ) × In p among × (put_in game puts k p ≡ w)) where
    some_put : (n : ℕ) → is_in n w ≡ true → 0 < counted (counts_in n) game.starters puts k
    some_put n e = some_counted game puts among k f (counts_in n) (is_in n) (tells game.answers k n) some.0 some.1 (ap (is_in n) some.2 ∙ e)

    module _ (all : (p : ℕ) → In p among → put_in game puts k p ≡ w) where
      none_put : (n : ℕ) → is_in n w ≡ false → counted (counts_in n) game.starters puts k ≡ 0
      none_put n e = none_counted game puts among k f (counts_in n) (is_in n) (tells game.answers k n) (λ p j. ap (is_in n) (all p j) ∙ e)

  -- a 1 is put, or listened for, or whatever else: no 0 is
  exactly : (w : Item) → w ≢ item.Sent false → ((p : ℕ) → In p among → (put_in game puts k p ≡ w) ⊎ ((put_in game puts k p ≡ item.Sent true) × (w ≡ item.Sent false))) → (p : ℕ) → In p among → put_in game puts k p ≡ w
  exactly w n all p i = elim (all p i) [ inl e ↦ e | inr e ↦ absurd (n e.1) ]

  shows : (w : Item) → (p : ℕ) × In p among × (put_in game puts k p ≡ w) → ((p : ℕ) → In p among → (put_in game puts k p ≡ w) ⊎ ((put_in game puts k p ≡ item.Sent true) × (w ≡ item.Sent false))) → Shows word (answer_at game.answers k) w
  unfolding word is_in item_field
  shows (item.Sent false) some all =
      let x = fields game.starters puts k few in
      let z = some_put (item.Sent false) some 1 refl in
      shows_zero word (answer_at game.answers k) (omega (arith, x.zeros, z))
  shows (item.Sent true) some all =
      let x = fields game.starters puts k few in
      let n = none_put (item.Sent true) some (exactly (item.Sent true) (λ e. cc) all) in
      shows_one word (answer_at game.answers k) (x.zeros ∙ n 1 refl) (x.agains ∙ n 2 refl) (x.stops ∙ n 3 refl) (x.listens ∙ n 4 refl) (x.claims ∙ n 5 refl)
  shows (item.Heard c) some all =
      let x = fields game.starters puts k few in
      let n = none_put (item.Heard c) some (exactly (item.Heard c) (λ e. cc) all) in
      let l = some_put (item.Heard c) some 4 refl in
      subst (λ (b : Bool). Shows word (answer_at game.answers k) (item.Heard b)) (heard_is_the_answer game.answers k (get_or (puts some.0) k Listen) c some.2)
      (shows_heard word (answer_at game.answers k) (x.zeros ∙ n 1 refl) (x.agains ∙ n 2 refl) (x.stops ∙ n 3 refl) (omega (arith, x.listens, l)))
  shows item.Again some all =
      let x = fields game.starters puts k few in
      let n = none_put item.Again some (exactly item.Again (λ e. cc) all) in
      let g = some_put item.Again some 2 refl in
      shows_again word (answer_at game.answers k) (x.zeros ∙ n 1 refl) (omega (arith, x.agains, g))
  shows item.Stop some all =
      let x = fields game.starters puts k few in
      let n = none_put item.Stop some (exactly item.Stop (λ e. cc) all) in
      let g = some_put item.Stop some 3 refl in
      shows_stop word (answer_at game.answers k) (x.zeros ∙ n 1 refl) (x.agains ∙ n 2 refl) (omega (arith, x.stops, g))
  shows item.Claim some all =
      let x = fields game.starters puts k few in
      let n = none_put item.Claim some (exactly item.Claim (λ e. cc) all) in
      let g = some_put item.Claim some 5 refl in
      shows_claim word (answer_at game.answers k) (x.zeros ∙ n 1 refl) (x.agains ∙ n 2 refl) (x.stops ∙ n 3 refl) (x.listens ∙ n 4 refl) (omega (arith, x.claims, g))

  -- who stays live where somebody put a 0 are those who did
  zeros_left : count_in game.starters (survivors among (put_in game puts k) (item.Sent false)) ≡ counted (counts_in 1) game.starters puts k
  unfolding counted is_in item_field
  zeros_left = count_same (survivors among (put_in game puts k) (item.Sent false)) (λ p. passes (counts_in 1) (slice_get (puts p) k)) game.starters (λ p i. elim (either (among p)) [
    | inl there ↦ stays_with_zero (among p) (put_in game puts k p) there ∙ sym (passes_item game puts among k f (counts_in 1) (is_in 1) (tells game.answers k 1) p there)
    | inr out ↦ gone_is_gone (among p) (is_item (put_in game puts k p) (item.Sent false)) out ∙ sym (passes_none (counts_in 1) (slice_get (puts p) k) (f.others p i out))
  ])

  -- and all of them else
  all_left : (w : Item) → ((p : ℕ) → In p among → put_in game puts k p ≡ w) → count_in game.starters (survivors among (put_in game puts k) w) ≡ count_in game.starters among
  all_left w all = count_same (survivors among (put_in game puts k) w) among game.starters (λ p i. elim (either (among p)) [
    | inl there ↦ survives among (put_in game puts k) w p there (all p there) ∙ sym there
    | inr out ↦ gone_is_gone (among p) (is_item (put_in game puts k p) w) out ∙ sym out
  ])

  left_of : (w : Item) → (p : ℕ) × In p among × (put_in game puts k p ≡ w) → ((p : ℕ) → In p among → (put_in game puts k p ≡ w) ⊎ ((put_in game puts k p ≡ item.Sent true) × (w ≡ item.Sent false))) → (x : Bool) → is_in 1 w ≡ x →
      count_in game.starters (survivors among (put_in game puts k) w) ≡ left_in word (count_in game.starters among)
  unfolding word is_in item_field
  left_of w some all true e =
      let z = (shows w some all).zeros in
      let n : (zeros_in word == 0) ≡ false = z ∙ ap (λ (b : Bool). if b then false else true) e in
      let x : zeros_in word ≡ counted (counts_in 1) game.starters puts k = (fields game.starters puts k few).zeros in
      let d : w ≡ item.Sent false = only_zero w e in
      subst (λ (y : Item). count_in game.starters (survivors among (put_in game puts k) y) ≡ left_in word (count_in game.starters among)) (sym d)
      (zeros_left ∙ sym x ∙ sym (taken (zeros_in word == 0) (count_in game.starters among) (zeros_in word) n))
  left_of w some all false e =
      let z = (shows w some all).zeros in
      let n : (zeros_in word == 0) ≡ true = z ∙ ap (λ (b : Bool). if b then false else true) e in
      all_left w (exactly w (λ d. not_zero w e d) all) ∙ sym (kept (zeros_in word == 0) (count_in game.starters among) (zeros_in word) n)

-- ---- what a look at the word of slot (length v) tells a state (v, among) that the play has passed

-- the slot is not complete, and the play has led just there
pub record Open (game : Game) (puts : Puts) (v u : List Item) (among live : Set) : Type 0 where
  pub wire : u ≡ v
  pub some_missing : arrivals_in (word_of game.starters puts (length v)) < count_in game.starters among

-- it is complete, and the word shows its item and how many stay live
pub record Complete (game : Game) (puts : Puts) (v u : List Item) (among live : Set) : Type 0 where
  pub all_there : arrivals_in (word_of game.starters puts (length v)) ≡ count_in game.starters among
  pub shown : Item
  pub is_shown : shown ≡ shown_in (word_of game.starters puts (length v)) (answer_at game.answers (length v))
  pub have_put : HavePut puts among (length v)
  pub is_slot : IsSlot game.plan v among (put_in game puts (length v)) shown
  pub left : count_in game.starters (survivors among (put_in game puts (length v)) shown) ≡ left_in (word_of game.starters puts (length v)) (count_in game.starters among)
  pub led : Leads game puts (v ++ shown ∷ []) (survivors among (put_in game puts (length v)) shown)
  pub goes : Goes game puts (v ++ shown ∷ []) (survivors among (put_in game puts (length v)) shown) u live

complete_slot : (game : Game) (puts : Puts) (v u : List Item) (among live : Set) → IsGame game → IsPlay game puts u live → Leads game puts v among → Goes game puts v among u live → First game puts v among u live → Complete game puts v u among live
unfolding word
complete_slot game puts v u among live is play led goes f =
    let k : ℕ = length v in
    let filled : Filled game puts among k = record {
      put = f.have_put;
      others = λ p i out. slice_get_past (puts p) k (has_not_put game puts v u among live play led goes p i out);
      started = λ p i. was_in game puts [] v (those game.starters) among p led i;
    } in
    let w = f.is_slot.is_wire in
    let x = shows game puts among k is.few filled f.shown w.some w.all in
    record {
      all_there = (fields game.starters puts k is.few).arrivals ∙ all_counted game puts among k filled;
      shown = f.shown;
      is_shown = sym x.shown;
      have_put = f.have_put;
      is_slot = f.is_slot;
      left = left_of game puts among k is.few filled f.shown w.some w.all (is_in 1 f.shown) refl;
      led = slot f.shown led f.have_put f.is_slot;
      goes = f.goes;
    }

pub slot_tells : (game : Game) (puts : Puts) (v u : List Item) (among live : Set) →
    IsGame game → IsPlay game puts u live → Leads game puts v among → Goes game puts v among u live →
    Open game puts v u among live ⊎ Complete game puts v u among live
slot_tells game puts v u among live is play led goes = elim (first_slot game puts v among goes) [
  | inl same ↦
      let k : ℕ = length u in
      let open_here : arrivals_in (word_of game.starters puts k) < count_in game.starters live = omega (arith, (fields game.starters puts k is.few).arrivals, open_slot game puts u live play) in
      inl (record {
        wire = sym same.0;
        some_missing = subst (λ (y : List Item). arrivals_in (word_of game.starters puts (length y)) < count_in game.starters among) (sym same.0)
            (subst (λ (s : Set). arrivals_in (word_of game.starters puts k) < count_in game.starters s) (sym same.1) open_here);
      })
  | inr f ↦ inr (complete_slot game puts v u among live is play led goes f)
]
