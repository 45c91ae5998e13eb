-- Each kind of step keeps the rule, however many seats there are, and tells what `Steps` says.
use Rattle.std.proofs.Common.{◌≡◌, ◌≢◌, ◌⊎◌, ℕ, zero, suc, ◌+◌, ◌^◌, ◌%◌, ◌<◌, ◌≤◌, ◌==◌, ◌&&◌, Bool, true, false, List, [], ◌∷◌, ◌++◌, length, set, Some, refl, sym, ap, ◌∙◌, subst, arith, inl, inr, replicate}
use Rattle.std.specs.Prelude.{slice_get, slice_index, not, if◌then◌else◌}
use Rattle.std.specs.List.{slice_index_or}
use Rattle.std.proofs.lemmas.List.{length-set, length-replicate, get_or-replicate, get_or-set_same, get_or-set_other, set-get_or}
use Rattle.std.proofs.lemmas.Bool.{cases_lt, cases_eq}
use Rattle.std.proofs.lemmas.Bool.Decides.{nat_tests}
use mathlib.Core.Option.{some, some-injective, some-ne-none}
use lib.ListN.{get_elem?}
use Rattle.atomic_table.specs.Table.{Allows, Splits, Joins, keeps, opening as table_opening}
use Rattle.atomic_table.proofs.Lists.{at_set, set_again}
use Rattle.message_tree.specs.declared.items.Item.{Item}
use Rattle.plan_core.specs.Lawful.{Set, In}
use Rattle.plan_core.specs.Rounds.{Offers, is_item, survivors}
use Rattle.plays.specs.declared.puts.Put.{Put}
use Rattle.plays.specs.declared.puts.Put.TheVariants.{Drive, Listen, Again, Stop, Claim}
use Rattle.plays.specs.Games.{Game, IsGame, those, answer_at}
use Rattle.plays.specs.Plays.{Puts, Goes, Leads, IsPlay, here, item_of, put_in, with_put}
use Rattle.plays.specs.Words.{contribution, word_of, arrivals_in, shown_in, left_in, count_in}
use Rattle.bus_bench.specs.declared.hands.Hand.{Hand}
use Rattle.bus_bench.specs.declared.hands.Setup.{Setup}
use Rattle.bus_bench.specs.declared.hands.Told.{Told}
use Rattle.bus_bench.specs.declared.hands.Role.{Role}
use Rattle.bus_bench.specs.declared.hands.Role.TheVariants.{Host, Player, Nobody}
use Rattle.bus_bench.specs.Hands.{hand_game, setup_game, starter}
use Rattle.bus_bench.specs.Rule.{SLOTS, Knows, Holder, FitsPlayer, FitsHost, FitsRole, Fits, IsWired, holds_at, opening}
use Rattle.bus_bench.specs.Steps.{HandPlayed, put_on, HasPut, own_item, item_shown, seen_on, HasSeen, puts_back, HasRead, handing_out, handed_out, taken_back, nobody}
use Rattle.plays.proofs.PlayLemmas.{start_is_play, PutOn, put_is_play, not_further, is_prefix}
use Rattle.plays.proofs.WordLemmas.{word_small, contribution_small, word_none, word_put_here, word_put_elsewhere}
use Rattle.plays.proofs.SlotLemmas.{Open, Complete, slot_tells}
use Rattle.bus_bench.proofs.ViewLemmas.{at_those, one_place, all_count, all_back, one_or_other, place_of, every_place}

-- ---- what fits by its role

player_fits : (game : Game) (puts : Puts) (wire : List Item) (live : Set) (holder : Holder) (id : ℕ) (v : Hand) → v.role ≡ Player → Fits game puts wire live holder id v → FitsPlayer game puts wire live holder id v
player_fits game puts wire live holder id v e f = subst (λ (r : Role). FitsRole r (FitsHost game puts wire live holder id v) (FitsPlayer game puts wire live holder id v)) e f

fits_player : (game : Game) (puts : Puts) (wire : List Item) (live : Set) (holder : Holder) (id : ℕ) (v : Hand) → v.role ≡ Player → FitsPlayer game puts wire live holder id v → Fits game puts wire live holder id v
fits_player game puts wire live holder id v e f = subst (λ (r : Role). FitsRole r (FitsHost game puts wire live holder id v) (FitsPlayer game puts wire live holder id v)) (sym e) f

host_fits : (game : Game) (puts : Puts) (wire : List Item) (live : Set) (holder : Holder) (id : ℕ) (v : Hand) → v.role ≡ Host → Fits game puts wire live holder id v → FitsHost game puts wire live holder id v
host_fits game puts wire live holder id v e f = subst (λ (r : Role). FitsRole r (FitsHost game puts wire live holder id v) (FitsPlayer game puts wire live holder id v)) e f

fits_host : (game : Game) (puts : Puts) (wire : List Item) (live : Set) (holder : Holder) (id : ℕ) (v : Hand) → v.role ≡ Host → FitsHost game puts wire live holder id v → Fits game puts wire live holder id v
fits_host game puts wire live holder id v e f = subst (λ (r : Role). FitsRole r (FitsHost game puts wire live holder id v) (FitsPlayer game puts wire live holder id v)) (sym e) f

-- a change of what fits, role by role
refit : (game : Game) (puts puts' : Puts) (wire wire' : List Item) (live live' : Set) (holder holder' : Holder) (id : ℕ) (v : Hand)
    → (FitsHost game puts wire live holder id v → FitsHost game puts' wire' live' holder' id v)
    → (FitsPlayer game puts wire live holder id v → FitsPlayer game puts' wire' live' holder' id v)
    → Fits game puts wire live holder id v → Fits game puts' wire' live' holder' id v
refit game puts puts' wire wire' live live' holder holder' id v h p f = by_role v.role f
  where
    by_role : (r : Role) → FitsRole r (FitsHost game puts wire live holder id v) (FitsPlayer game puts wire live holder id v) → FitsRole r (FitsHost game puts' wire' live' holder' id v) (FitsPlayer game puts' wire' live' holder' id v)
    by_role Host f = h f
    by_role Player f = p f
    by_role Nobody f = tt

twice_not : (b : Bool) → b ≡ not (not b)
twice_not true = refl
twice_not false = refl

-- ---- opening

zeros : (xs : List ℕ) (k : ℕ) → k < SLOTS → slice_index (replicate SLOTS 0) k ≡ word_of xs (λ p. []) k
zeros xs k lt = get_or-replicate SLOTS k 0 0 lt ∙ sym (word_none xs k)

pub opens : (setup : Setup) → IsGame (setup_game setup) → holds_at setup (table_opening (replicate SLOTS 0) [] (opening setup))
opens setup valid = record {
  valid = valid;
  puts = λ p. [];
  wire = [];
  live = those setup.starters.items;
  play = start_is_play (setup_game setup) valid;
  long = length-replicate {A = ℕ} SLOTS 0;
  counted = zeros setup.starters.items;
  holder = λ k. 0;
  fits = host_alone;
}
  where
    host : FitsHost (setup_game setup) (λ p. []) [] (those setup.starters.items) (λ k. 0) 0 (opening setup)
    host = record { one_game = refl; first = refl; made = omega arith; unmade = λ k a b. (refl, refl); returned = λ k e at. absurd cc; once = λ i k d e at_i at_k same. absurd cc }

    host_alone : (id : ℕ) (v : Hand) → get_elem? (opening setup ∷ []) id ≡ some v → Fits (setup_game setup) (λ p. []) [] (those setup.starters.items) (λ k. 0) id v
    host_alone zero v e = subst (Fits (setup_game setup) (λ p. []) [] (those setup.starters.items) (λ k. 0) 0) (some-injective _ _ e) host
    host_alone (suc id) v e = absurd (some-ne-none v (sym e))

-- ---- putting

-- the hand's own game may stand in the place of the bench's
own_game : (game : Game) (words : List ℕ) (views : List Hand) (v : Hand) → hand_game v ≡ game → IsWired game words views → IsWired (hand_game v) words views
own_game game words views v e h = subst (λ (g : Game). IsWired g words views) (sym e) h

back_game : (game : Game) (words : List ℕ) (views : List Hand) (v : Hand) → hand_game v ≡ game → IsWired (hand_game v) words views → IsWired game words views
back_game game words views v e h = subst (λ (g : Game). IsWired g words views) e h

others_kept : (puts : Puts) (p q : ℕ) (x : Put) → q ≢ p → with_put puts p x q ≡ puts q
others_kept puts p q x n = let e : (q == p) ≡ false = grind (arith, nat_tests) in ap (λ (b : Bool). if b then puts p ++ x ∷ [] else puts q) e

own_more : (puts : Puts) (p : ℕ) (x : Put) → with_put puts p x p ≡ puts p ++ x ∷ []
own_more puts p x = let e : (p == p) ≡ true = grind (arith, nat_tests) in ap (λ (b : Bool). if b then puts p ++ x ∷ [] else puts p) e

-- what is known of one who did not put stays known
knows_still : (game : Game) (puts : Puts) (u : List Item) (live : Set) (p q : ℕ) (x : Put) (on : PutOn game puts (with_put puts p x) u live) (t : Told) → q ≢ p → Knows game puts u live q t → Knows game (with_put puts p x) on.wire on.on q t
knows_still game puts u live p q x on t n k =
    let passed = on.passes t.seen k.among k.led k.goes in
    record { among = k.among; made = others_kept puts p q x n ∙ k.made; led = passed.0; goes = passed.1; here = k.here; count = k.count }

small_sum : (a b : ℕ) → a < 2 ^ 57 → b < 2 ^ 51 → (a + b) % 2 ^ 64 ≡ a + b
small_sum a b lt le = omega arith

contributions_differ : (x y : Put) → contribution x ≡ contribution y → x ≡ y
contributions_differ (Drive true) (Drive true) e = refl
contributions_differ (Drive false) (Drive false) e = refl
contributions_differ Listen Listen e = refl
contributions_differ Again Again e = refl
contributions_differ Stop Stop e = refl
contributions_differ Claim Claim e = refl
contributions_differ x (Drive true) e = absurd (omega arith)
contributions_differ x (Drive false) e = absurd (omega arith)
contributions_differ (Drive true) y e = absurd (omega arith)
contributions_differ (Drive false) y e = absurd (omega arith)
contributions_differ x y e = absurd (omega arith)

abbrev after_put : Put → Hand → Hand
after_put x v = record v { told = put_on x v.told }

-- a player who is live and has put in each slot that it has seen complete, and in no other
pub record MayPutNow (v : Hand) (x : Put) : Type 0 where
  pub plays : v.role ≡ Player
  pub is_live : v.told.out ≡ false
  pub none_yet : length v.told.puts ≡ length v.told.seen
  pub offers : Offers (hand_game v).plan (starter (hand_game v) v.seat) v.told.seen (item_of v.answers (length v.told.seen) x)

module _ (words : List ℕ) (views : List Hand) (id : ℕ) (v : Hand) (x : Put) (may : MayPutNow v x) (room : length v.told.seen < SLOTS) (h : IsWired (hand_game v) words views) (at : get_elem? views id ≡ some v) where
  mine : FitsPlayer (hand_game v) h.puts h.wire h.live h.holder id v
  mine = player_fits (hand_game v) h.puts h.wire h.live h.holder id v may.plays (h.fits id v at)

  -- the play has led to just what the player has seen
  led_here : (h.wire ≡ v.told.seen) × (h.live ≡ mine.knows.among)
  led_here =
      let k = mine.knows in
      not_further (hand_game v) h.puts v.told.seen h.wire k.among h.live (starter (hand_game v) v.seat) k.goes (k.here ∙ ap not may.is_live) (ap length k.made ∙ may.none_yet)

  put_made : PutOn (hand_game v) h.puts (with_put h.puts (starter (hand_game v) v.seat) x) h.wire h.live
  put_made =
      let k = mine.knows in
      let p : ℕ = starter (hand_game v) v.seat in
      let many : length (h.puts p) ≡ length h.wire = ap length k.made ∙ may.none_yet ∙ sym (ap length led_here.0) in
      let is_live : In p h.live = ap (λ (s : Set). s p) led_here.1 ∙ k.here ∙ ap not may.is_live in
      put_is_play (hand_game v) h.puts h.wire h.live p x h.valid h.play is_live many
      (subst (λ (u : List Item). Offers (hand_game v).plan p u (item_of v.answers (length u) x)) (sym led_here.0) may.offers)

  word_after : (k : ℕ) → k < SLOTS → slice_index (set words (length v.told.seen) ((slice_index words (length v.told.seen) + contribution x) % 2 ^ 64)) k ≡ word_of v.starters (with_put h.puts (starter (hand_game v) v.seat) x) k
  word_after k lt =
      let p : ℕ = starter (hand_game v) v.seat in
      let slot : ℕ = length v.told.seen in
      let here' : length (h.puts p) ≡ slot = ap length mine.knows.made ∙ may.none_yet in
      let at_slot : slice_index words slot ≡ word_of v.starters h.puts slot = h.counted slot room in
      let more : word_of v.starters (with_put h.puts p x) slot ≡ word_of v.starters h.puts slot + contribution x = word_put_here v.starters h.puts p slot x h.valid.once (at_those v.starters v.seat mine.place) here' in
      let small : (word_of v.starters h.puts slot + contribution x) % 2 ^ 64 ≡ word_of v.starters h.puts slot + contribution x = small_sum (word_of v.starters h.puts slot) (contribution x) (word_small v.starters h.puts slot h.valid.few) (contribution_small x) in
      let new : ℕ = (slice_index words slot + contribution x) % 2 ^ 64 in
      let new_is : new ≡ word_of v.starters (with_put h.puts p x) slot = ap (λ (n : ℕ). (n + contribution x) % 2 ^ 64) at_slot ∙ small ∙ sym more in
      elim (cases_eq k slot) [
        | inl e ↦ ap (λ (j : ℕ). slice_index (set words slot new) j) e ∙ get_or-set_same words slot new 0 (subst (λ (n : ℕ). slot < n) (sym h.long) room) ∙ new_is ∙ ap (word_of v.starters (with_put h.puts p x)) (sym e)
        | inr n ↦ get_or-set_other words slot k new 0 n ∙ h.counted k lt ∙ sym (word_put_elsewhere v.starters h.puts p k x (λ e. n (sym e ∙ here')))
      ]

  -- another starter is another participant
  other_seat : (j : ℕ) → j < length v.starters → j ≢ v.seat → starter (hand_game v) j ≢ starter (hand_game v) v.seat
  other_seat j lt n e = n (one_place v.starters j v.seat h.valid.once lt mine.place e)

  kept_host : (j : ℕ) (u : Hand) → FitsHost (hand_game v) h.puts h.wire h.live h.holder j u → FitsHost (hand_game v) (with_put h.puts (starter (hand_game v) v.seat) x) put_made.wire put_made.on h.holder j u
  kept_host j u f =
      let p : ℕ = starter (hand_game v) v.seat in
      let taken : (k : ℕ) → h.holder k ≡ 0 → k ≢ v.seat = λ k none e. let a : h.holder v.seat ≡ suc id = mine.holds in let b : h.holder k ≡ h.holder v.seat = ap h.holder e in omega arith in
      record {
        one_game = f.one_game;
        first = f.first;
        made = f.made;
        unmade = λ k le lt. let u' = f.unmade k le lt in (u'.0, others_kept h.puts p (starter (hand_game v) k) x (other_seat k lt (taken k u'.0)) ∙ u'.1);
        returned = λ k e at'.
            let r = f.returned k e at' in
            let below : e.0 < length v.starters = let a : e.0 < u.seat = r.0 in let c : u.seat ≤ length v.starters = f.made in omega arith in
            (r.0, r.1, knows_still (hand_game v) h.puts h.wire h.live p (starter (hand_game v) e.0) x put_made e.1 (other_seat e.0 below (taken e.0 r.1)) r.2);
        once = f.once;
      }

  kept_player : (j : ℕ) (u : Hand) → j ≢ id → FitsPlayer (hand_game v) h.puts h.wire h.live h.holder j u → FitsPlayer (hand_game v) (with_put h.puts (starter (hand_game v) v.seat) x) put_made.wire put_made.on h.holder j u
  kept_player j u n f =
      let p : ℕ = starter (hand_game v) v.seat in
      let apart : u.seat ≢ v.seat = λ e. let a : h.holder v.seat ≡ suc id = mine.holds in let b : h.holder u.seat ≡ suc j = f.holds in let c : h.holder u.seat ≡ h.holder v.seat = ap h.holder e in n (omega arith) in
      record {
        one_game = f.one_game;
        place = f.place;
        holds = f.holds;
        knows = knows_still (hand_game v) h.puts h.wire h.live p (starter (hand_game v) u.seat) x put_made u.told (other_seat u.seat f.place apart) f.knows;
      }

  own_after : FitsPlayer (hand_game v) (with_put h.puts (starter (hand_game v) v.seat) x) put_made.wire put_made.on h.holder id (after_put x v)
  own_after =
      let k = mine.knows in
      let p : ℕ = starter (hand_game v) v.seat in
      let passed = put_made.passes v.told.seen k.among k.led k.goes in
      record {
        one_game = refl;
        place = mine.place;
        holds = mine.holds;
        knows = record { among = k.among; made = own_more h.puts p x ∙ ap (λ (xs : List Put). xs ++ x ∷ []) k.made; led = passed.0; goes = passed.1; here = k.here; count = k.count };
      }

  put_keeps : IsWired (hand_game v) (set words (length v.told.seen) ((slice_index words (length v.told.seen) + contribution x) % 2 ^ 64)) (set views id (after_put x v))
  put_keeps = record {
    valid = h.valid;
    puts = with_put h.puts (starter (hand_game v) v.seat) x;
    wire = put_made.wire;
    live = put_made.on;
    play = put_made.play;
    long = length-set words (length v.told.seen) ((slice_index words (length v.told.seen) + contribution x) % 2 ^ 64) ∙ h.long;
    counted = word_after;
    holder = h.holder;
    fits = λ j u e. elim (at_set views id j (after_put x v) u e) [
      | inl same ↦ subst (λ (y : ℕ × Hand). Fits (hand_game v) (with_put h.puts (starter (hand_game v) v.seat) x) put_made.wire put_made.on h.holder y.0 y.1) (λ i. (sym same.0 i, same.1 i))
          (fits_player (hand_game v) (with_put h.puts (starter (hand_game v) v.seat) x) put_made.wire put_made.on h.holder id (after_put x v) may.plays own_after)
      | inr other ↦ refit (hand_game v) h.puts (with_put h.puts (starter (hand_game v) v.seat) x) h.wire put_made.wire h.live put_made.on h.holder h.holder j u (kept_host j u) (kept_player j u other.0) (h.fits j u other.1)
    ];
  }

  put_played : HandPlayed (after_put x v)
  put_played =
      let k = mine.knows in
      let p : ℕ = starter (hand_game v) v.seat in
      let passed = put_made.passes v.told.seen k.among k.led k.goes in
      let front = is_prefix (hand_game v) (with_put h.puts p x) v.told.seen put_made.wire k.among put_made.on passed.1 in
      record {
        all = with_put h.puts p x;
        wire = put_made.wire;
        live = put_made.on;
        play = put_made.play;
        own = own_more h.puts p x ∙ ap (λ (xs : List Put). xs ++ x ∷ []) k.made;
        rest = front.0;
        begins = front.1;
      }

-- the game of a hand that plays or that is the host
its_game : (game : Game) (words : List ℕ) (views : List Hand) (id : ℕ) (v : Hand) → IsWired game words views → get_elem? views id ≡ some v → v.role ≡ Player → hand_game v ≡ game
its_game game words views id v h at plays = (player_fits game h.puts h.wire h.live h.holder id v plays (h.fits id v at)).one_game

pub puts : (setup : Setup) (slots id : ℕ) (v : Hand) (x : Put) → MayPutNow v x → length v.told.seen < SLOTS → Allows (holds_at setup) slots id (v, []) (length v.told.seen) (λ n. (n + contribution x) % 2 ^ 64) (λ n me. HasPut (contribution x) v me.0 × (me.1 ≡ []))
puts setup slots id v x may room s h few at small =
    let game : Game = setup_game setup in
    let same = its_game game s.words s.views id v h at may.plays in
    let own = own_game game s.words s.views v same h in (
      after_put x v,
      keeps,
      tt,
      back_game game (set s.words (length v.told.seen) ((slice_index s.words (length v.told.seen) + contribution x) % 2 ^ 64)) (set s.views id (after_put x v)) v same (put_keeps s.words s.views id v x may room own at),
      ((put_played s.words s.views id v x may room own at, λ y e. ap (λ (z : Put). after_put z v) (contributions_differ x y (sym e))), refl),
    )

-- ---- seeing

module _ (words : List ℕ) (views : List Hand) (id : ℕ) (v : Hand) (plays : v.role ≡ Player) (is_live : v.told.out ≡ false) (room : length v.told.seen < SLOTS) (h : IsWired (hand_game v) words views) (at : get_elem? views id ≡ some v) where
  looks : FitsPlayer (hand_game v) h.puts h.wire h.live h.holder id v
  looks = player_fits (hand_game v) h.puts h.wire h.live h.holder id v plays (h.fits id v at)

  found : ℕ
  found = slice_index words (length v.told.seen)

  found_is : found ≡ word_of v.starters h.puts (length v.told.seen)
  unfolding found
  found_is = h.counted (length v.told.seen) room

  same_views : (w : Hand) → w ≡ v → set views id w ≡ views
  same_views w e = ap (set views id) e ∙ set_again views id v at

  same_words : set words (length v.told.seen) found ≡ words
  unfolding found
  same_words = set-get_or words (length v.told.seen) 0

  waits : Open (hand_game v) h.puts v.told.seen h.wire looks.knows.among h.live → IsWired (hand_game v) (set words (length v.told.seen) found) (set views id v) × HasSeen found v v
  waits o =
      let k = looks.knows in (
        subst (λ (vs : List Hand). IsWired (hand_game v) (set words (length v.told.seen) found) vs) (sym (same_views v refl)) (subst (λ (ws : List ℕ). IsWired (hand_game v) ws views) (sym same_words) h),
        inr (
          subst (λ (m : ℕ). arrivals_in found < m) k.count (subst (λ (n : ℕ). arrivals_in n < count_in v.starters k.among) (sym found_is) o.some_missing),
          refl,
          record { all = h.puts; live = h.live; play = subst (λ (u : List Item). IsPlay (hand_game v) h.puts u h.live) o.wire h.play; own = k.made },
        ),
      )

  sees_on : (c : Complete (hand_game v) h.puts v.told.seen h.wire looks.knows.among h.live) → Knows (hand_game v) h.puts h.wire h.live (starter (hand_game v) v.seat) (seen_on found v)
  sees_on c =
      let k = looks.knows in
      let p : ℕ = starter (hand_game v) v.seat in
      let slot : ℕ = length v.told.seen in
      let shown_is : c.shown ≡ item_shown found v = c.is_shown ∙ ap (λ (n : ℕ). shown_in n (answer_at v.answers slot)) (sym found_is) in
      let own_is : put_in (hand_game v) h.puts slot p ≡ own_item v = ap (λ (xs : List Put). item_of v.answers slot (slice_index_or xs slot Listen)) k.made in
      let among : Set = survivors k.among (put_in (hand_game v) h.puts slot) c.shown in
      record {
        among = among;
        made = k.made;
        led = subst (λ (w : Item). Leads (hand_game v) h.puts (v.told.seen ++ w ∷ []) among) shown_is c.led;
        goes = subst (λ (w : Item). Goes (hand_game v) h.puts (v.told.seen ++ w ∷ []) among h.wire h.live) shown_is c.goes;
        here = ap (λ (b : Bool). b && is_item (put_in (hand_game v) h.puts slot p) c.shown) (k.here ∙ ap not is_live) ∙ ap (λ (w : Item). is_item w c.shown) own_is ∙ ap (is_item (own_item v)) shown_is ∙ twice_not (is_item (own_item v) (item_shown found v));
        count = c.left ∙ ap (λ (n : ℕ). left_in n (count_in v.starters k.among)) (sym found_is) ∙ ap (left_in found) k.count;
      }

  sees_complete : Complete (hand_game v) h.puts v.told.seen h.wire looks.knows.among h.live → IsWired (hand_game v) (set words (length v.told.seen) found) (set views id (record v { told = seen_on found v })) × HasSeen found v (record v { told = seen_on found v })
  sees_complete c =
      let k = looks.knows in
      let w : Hand = record v { told = seen_on found v } in
      let knows = sees_on c in
      let front = is_prefix (hand_game v) h.puts (seen_on found v).seen h.wire knows.among h.live knows.goes in (
        record {
          valid = h.valid;
          puts = h.puts;
          wire = h.wire;
          live = h.live;
          play = h.play;
          long = length-set words (length v.told.seen) found ∙ h.long;
          counted = λ j lt. ap (λ (ws : List ℕ). slice_index ws j) same_words ∙ h.counted j lt;
          holder = h.holder;
          fits = λ j u e. elim (at_set views id j w u e) [
            | inl same ↦ subst (λ (y : ℕ × Hand). Fits (hand_game v) h.puts h.wire h.live h.holder y.0 y.1) (λ i. (sym same.0 i, same.1 i))
                (fits_player (hand_game v) h.puts h.wire h.live h.holder id w plays (record { one_game = refl; place = looks.place; holds = looks.holds; knows = knows }))
            | inr other ↦ h.fits j u other.1
          ];
        },
        inl (
          ap arrivals_in found_is ∙ c.all_there ∙ k.count,
          refl,
          record { all = h.puts; wire = h.wire; live = h.live; play = h.play; own = k.made; rest = front.0; begins = front.1 },
        ),
      )

  look : (w : Hand) × IsWired (hand_game v) (set words (length v.told.seen) found) (set views id w) × HasSeen found v w
  look = elim (slot_tells (hand_game v) h.puts v.told.seen h.wire looks.knows.among h.live h.valid h.play looks.knows.led looks.knows.goes) [
    | inl o ↦ let t = waits o in (v, t.0, t.1)
    | inr c ↦ let t = sees_complete c in (record v { told = seen_on found v }, t.0, t.1)
  ]

pub sees : (setup : Setup) (slots id : ℕ) (v : Hand) → v.role ≡ Player → v.told.out ≡ false → length v.told.seen < SLOTS → Allows (holds_at setup) slots id (v, []) (length v.told.seen) (λ n. n) (λ n me. HasSeen n v me.0 × (me.1 ≡ []))
unfolding found
sees setup slots id v plays is_live room s h few at small =
    let game : Game = setup_game setup in
    let same = its_game game s.words s.views id v h at plays in
    let own = own_game game s.words s.views v same h in
    let l = look s.words s.views id v plays is_live room own at in
    (l.0, keeps, tt, back_game game (set s.words (length v.told.seen) (slice_index s.words (length v.told.seen))) (set s.views id l.0) v same l.1, (l.2, refl))

-- ---- handing seats out, and taking them back

at_end : (l : List Hand) (a b : Hand) (j : ℕ) → get_elem? (l ++ a ∷ []) j ≡ some b → (get_elem? l j ≡ some b) ⊎ ((j ≡ length l) × (a ≡ b))
at_end [] a b zero e = inr (refl, some-injective a b e)
at_end [] a b (suc j) e = absurd (some-ne-none b (sym e))
at_end (x ∷ xs) a b zero e = inl e
at_end (x ∷ xs) a b (suc j) e = elim (at_end xs a b j e) [ inl h ↦ inl h | inr h ↦ inr (ap suc h.0, h.1) ]

told_end : (l : List (ℕ × Told)) (a b : ℕ × Told) (j : ℕ) → slice_get (l ++ a ∷ []) j ≡ Some b → (slice_get l j ≡ Some b) ⊎ ((j ≡ length l) × (a ≡ b))
told_end [] a b zero e = inr (refl, cc)
told_end [] a b (suc j) e = absurd cc
told_end (x ∷ xs) a b zero e = inl e
told_end (x ∷ xs) a b (suc j) e = elim (told_end xs a b j e) [ inl h ↦ inl h | inr h ↦ inr (ap suc h.0, h.1) ]

-- the holder of one seat is another
held_by : Holder → ℕ → ℕ → Holder
held_by holder seat n k = if k == seat then n else holder k

held_here : (holder : Holder) (seat n : ℕ) → held_by holder seat n seat ≡ n
unfolding held_by
held_here holder seat n = let e : (seat == seat) ≡ true = grind (arith, nat_tests) in ap (λ (b : Bool). if b then n else holder seat) e

held_else : (holder : Holder) (seat n k : ℕ) → k ≢ seat → held_by holder seat n k ≡ holder k
unfolding held_by
held_else holder seat n k ne = let e : (k == seat) ≡ false = grind (arith, nat_tests) in ap (λ (b : Bool). if b then n else holder k) e

-- what the host knows of those that came back, and of those that have not been made, under another holder
host_under : (game : Game) (puts : Puts) (wire : List Item) (live : Set) (holder holder' : Holder) (id : ℕ) (v w : Hand) → hand_game w ≡ game → v.seat ≤ w.seat → w.seat ≤ length game.starters → w.back ≡ v.back
    → ((k : ℕ) → w.seat ≤ k → holder' k ≡ holder k) → ((k : ℕ) → k < v.seat → holder' k ≡ holder k)
    → FitsHost game puts wire live holder id v → FitsHost game puts wire live holder' id w
host_under game puts wire live holder holder' id v w one less made back later earlier f =
    let old : (k : ℕ) (e : ℕ × Told) → slice_get w.back k ≡ Some e → slice_get v.back k ≡ Some e = λ k e at. ap (λ (es : List (ℕ × Told)). slice_get es k) (sym back) ∙ at in
    record {
      one_game = one;
      first = f.first;
      made = made;
      unmade = λ k le lt. let u = f.unmade k (omega arith) lt in (later k le ∙ u.0, u.1);
      returned = λ k e at. let r = f.returned k e (old k e at) in let lt : e.0 < v.seat = r.0 in (omega arith, earlier e.0 lt ∙ r.1, r.2);
      once = λ i k d e at_i at_k same. f.once i k d e (old i d at_i) (old k e at_k) same;
    }

player_under : (game : Game) (puts : Puts) (wire : List Item) (live : Set) (holder holder' : Holder) (id : ℕ) (v : Hand) → holder' v.seat ≡ holder v.seat → FitsPlayer game puts wire live holder id v → FitsPlayer game puts wire live holder' id v
player_under game puts wire live holder holder' id v e f = record { one_game = f.one_game; place = f.place; holds = e ∙ f.holds; knows = f.knows }

module _ (words : List ℕ) (views : List Hand) (id : ℕ) (v : Hand) (hosts : v.role ≡ Host) (h : IsWired (hand_game v) words views) (at : get_elem? views id ≡ some v) where
  host_here : FitsHost (hand_game v) h.puts h.wire h.live h.holder id v
  host_here = host_fits (hand_game v) h.puts h.wire h.live h.holder id v hosts (h.fits id v at)

  module _ (room : v.seat < length v.starters) where
    new_holder : Holder
    new_holder = held_by h.holder v.seat (suc (length views))

    new_player : FitsPlayer (hand_game v) h.puts h.wire h.live new_holder (length views) (handed_out v)
    unfolding new_holder
    new_player = record {
      one_game = refl;
      place = room;
      holds = held_here h.holder v.seat (suc (length views));
      knows = record {
        among = those v.starters;
        made = (host_here.unmade v.seat (omega arith) room).1;
        led = here;
        goes = h.play.led;
        here = at_those v.starters v.seat room;
        count = all_count v.starters;
      };
    }

    new_host : FitsHost (hand_game v) h.puts h.wire h.live new_holder id (handing_out v)
    unfolding new_holder
    new_host =
        host_under (hand_game v) h.puts h.wire h.live h.holder (held_by h.holder v.seat (suc (length views))) id v (handing_out v) refl (omega arith) (omega arith) refl
        (λ k le. held_else h.holder v.seat (suc (length views)) k (λ e. omega arith))
        (λ k lt. held_else h.holder v.seat (suc (length views)) k (λ e. omega arith))
        host_here

    fits_beside : (j : ℕ) (u : Hand) → j ≢ id → Fits (hand_game v) h.puts h.wire h.live h.holder j u → Fits (hand_game v) h.puts h.wire h.live new_holder j u
    unfolding new_holder
    fits_beside j u n f =
        refit (hand_game v) h.puts h.puts h.wire h.wire h.live h.live h.holder new_holder j u
        (λ g. absurd (n (g.first ∙ sym host_here.first)))
        (λ g. player_under (hand_game v) h.puts h.wire h.live h.holder (held_by h.holder v.seat (suc (length views))) j u
        (held_else h.holder v.seat (suc (length views)) u.seat (λ e. let a : h.holder u.seat ≡ suc j = g.holds in let b : h.holder v.seat ≡ 0 = (host_here.unmade v.seat (omega arith) room).0 in let c : h.holder u.seat ≡ h.holder v.seat = ap h.holder e in omega arith)) g)
        f

    split_keeps : IsWired (hand_game v) words (set views id (handing_out v) ++ handed_out v ∷ [])
    split_keeps = record {
      valid = h.valid;
      puts = h.puts;
      wire = h.wire;
      live = h.live;
      play = h.play;
      long = h.long;
      counted = h.counted;
      holder = new_holder;
      fits = λ j u e. elim (at_end (set views id (handing_out v)) (handed_out v) u j e) [
        | inl old ↦ elim (at_set views id j (handing_out v) u old) [
          | inl same ↦ subst (λ (y : ℕ × Hand). Fits (hand_game v) h.puts h.wire h.live new_holder y.0 y.1) (λ i. (sym same.0 i, same.1 i)) (fits_host (hand_game v) h.puts h.wire h.live new_holder id (handing_out v) hosts new_host)
          | inr other ↦ fits_beside j u other.0 (h.fits j u other.1)
        ]
        | inr last ↦ subst (λ (y : ℕ × Hand). Fits (hand_game v) h.puts h.wire h.live new_holder y.0 y.1) (λ i. (sym (last.0 ∙ length-set views id (handing_out v)) i, last.1 i)) (fits_player (hand_game v) h.puts h.wire h.live new_holder (length views) (handed_out v) refl new_player)
      ];
    }

  module _ (other : ℕ) (w : Hand) (plays : w.role ≡ Player) (apart : other ≢ id) (there : get_elem? views other ≡ some w) where
    guest : FitsPlayer (hand_game v) h.puts h.wire h.live h.holder other w
    guest = player_fits (hand_game v) h.puts h.wire h.live h.holder other w plays (h.fits other w there)

    left_holder : Holder
    left_holder = held_by h.holder w.seat 0

    -- the seat was handed out
    was_made : w.seat < v.seat
    was_made = elim (cases_lt w.seat v.seat) [
      | inl lt ↦ lt
      | inr le ↦ let a : h.holder w.seat ≡ suc other = guest.holds in let b : h.holder w.seat ≡ 0 = (host_here.unmade w.seat le guest.place).0 in absurd (omega arith)
    ]

    host_after : FitsHost (hand_game v) h.puts h.wire h.live left_holder id (taken_back v w)
    unfolding left_holder
    host_after = record {
      one_game = refl;
      first = host_here.first;
      made = host_here.made;
      unmade = λ k le lt. let u = host_here.unmade k le lt in let made = was_made in (held_else h.holder w.seat 0 k (λ e. omega arith) ∙ u.0, u.1);
      returned = λ k e at'. elim (told_end v.back (w.seat, w.told) e k at') [
        | inl old ↦ let r = host_here.returned k e old in (r.0, held_else h.holder w.seat 0 e.0 (λ d. let a : h.holder w.seat ≡ suc other = guest.holds in let b : h.holder e.0 ≡ 0 = r.1 in let c : h.holder e.0 ≡ h.holder w.seat = ap h.holder d in omega arith) ∙ r.1, r.2)
        | inr last ↦
            let place : w.seat ≡ e.0 = λ i. (last.1 i).0 in
            let made = was_made in
            (omega arith, ap (held_by h.holder w.seat 0) (sym place) ∙ held_here h.holder w.seat 0, subst (λ (y : ℕ × Told). Knows (hand_game v) h.puts h.wire h.live (starter (hand_game v) y.0) y.1) last.1 guest.knows)
      ];
      once = λ i k d e at_i at_k same. elim (told_end v.back (w.seat, w.told) d i at_i) [
        | inl old_i ↦ elim (told_end v.back (w.seat, w.told) e k at_k) [
          | inl old_k ↦ host_here.once i k d e old_i old_k same
          | inr last_k ↦ absurd (not_twice i d old_i (same ∙ sym (λ i. (last_k.1 i).0)))
        ]
        | inr last_i ↦ elim (told_end v.back (w.seat, w.told) e k at_k) [
          | inl old_k ↦ absurd (not_twice k e old_k (sym same ∙ sym (λ i. (last_i.1 i).0)))
          | inr last_k ↦ last_i.0 ∙ sym last_k.0
        ]
      ];
    }
      where
        not_twice : (k : ℕ) (e : ℕ × Told) → slice_get v.back k ≡ Some e → e.0 ≡ w.seat → ⊥
        not_twice k e old same = let r = host_here.returned k e old in let a : h.holder w.seat ≡ suc other = guest.holds in let b : h.holder e.0 ≡ 0 = r.1 in let c : h.holder e.0 ≡ h.holder w.seat = ap h.holder same in omega arith

    stays_beside : (j : ℕ) (u : Hand) → j ≢ id → j ≢ other → Fits (hand_game v) h.puts h.wire h.live h.holder j u → Fits (hand_game v) h.puts h.wire h.live left_holder j u
    unfolding left_holder
    stays_beside j u n m f =
        refit (hand_game v) h.puts h.puts h.wire h.wire h.live h.live h.holder left_holder j u
        (λ g. absurd (n (g.first ∙ sym host_here.first)))
        (λ g. player_under (hand_game v) h.puts h.wire h.live h.holder (held_by h.holder w.seat 0) j u
        (held_else h.holder w.seat 0 u.seat (λ e. let a : h.holder u.seat ≡ suc j = g.holds in let b : h.holder w.seat ≡ suc other = guest.holds in let c : h.holder u.seat ≡ h.holder w.seat = ap h.holder e in m (omega arith))) g)
        f

    join_keeps : IsWired (hand_game v) words (set (set views id (taken_back v w)) other nobody)
    join_keeps = record {
      valid = h.valid;
      puts = h.puts;
      wire = h.wire;
      live = h.live;
      play = h.play;
      long = h.long;
      counted = h.counted;
      holder = left_holder;
      fits = λ j u e. elim (at_set (set views id (taken_back v w)) other j nobody u e) [
        | inl spent ↦ subst (Fits (hand_game v) h.puts h.wire h.live left_holder j) spent.1 tt
        | inr old ↦ elim (at_set views id j (taken_back v w) u old.1) [
          | inl same ↦ subst (λ (y : ℕ × Hand). Fits (hand_game v) h.puts h.wire h.live left_holder y.0 y.1) (λ i. (sym same.0 i, same.1 i)) (fits_host (hand_game v) h.puts h.wire h.live left_holder id (taken_back v w) hosts host_after)
          | inr beside ↦ stays_beside j u beside.0 old.0 (h.fits j u beside.1)
        ]
      ];
    }

  module _ (all : length v.back ≡ length v.starters) (k : ℕ) (within : k < SLOTS) where
    covers : (j : ℕ) → j < length v.starters → (k : ℕ) × (e : ℕ × Told) × (slice_get v.back k ≡ Some e) × (e.0 ≡ j)
    covers j lt = every_place v.back (length v.starters) all (λ i e at'. let r = host_here.returned i e at' in let a : e.0 < v.seat = r.0 in let b : v.seat ≤ length v.starters = host_here.made in omega arith) host_here.once j lt

    puts_are : h.puts ≡ puts_back (hand_game v) v.back
    puts_are = λ i p. all_back (hand_game v) v.back h.puts p (λ j e at'. (host_here.returned j e at').2.made) (placed p) i
      where
        placed : (p : ℕ) → ((k : ℕ) × (e : ℕ × Told) × (slice_get v.back k ≡ Some e) × (starter (hand_game v) e.0 ≡ p)) ⊎ (h.puts p ≡ [])
        placed p = elim (one_or_other (those v.starters p)) [
          | inl started ↦ let at_p = place_of v.starters p started in let c = covers at_p.0 at_p.1 in inl (c.0, c.1, c.2, ap (starter (hand_game v)) c.3 ∙ at_p.2)
          | inr not_started ↦ inr (h.play.others p not_started)
        ]

    has_read : HasRead k (slice_index words k) v
    has_read = record {
      wire = h.wire;
      live = h.live;
      play = subst (λ (ps : Puts). IsPlay (hand_game v) ps h.wire h.live) puts_are h.play;
      each = λ j e at'. subst (λ (ps : Puts). Knows (hand_game v) ps h.wire h.live (starter (hand_game v) e.0) e.1) puts_are (host_here.returned j e at').2;
      all = covers;
      word = h.counted k within ∙ ap (λ (ps : Puts). word_of v.starters ps k) puts_are;
    }

host_game : (game : Game) (words : List ℕ) (views : List Hand) (id : ℕ) (v : Hand) → IsWired game words views → get_elem? views id ≡ some v → v.role ≡ Host → hand_game v ≡ game
host_game game words views id v h at hosts = (host_fits game h.puts h.wire h.live h.holder id v hosts (h.fits id v at)).one_game

pub hands_out : (setup : Setup) (id : ℕ) (v : Hand) → v.role ≡ Host → v.seat < length v.starters → Splits (holds_at setup) id v (handing_out v) (handed_out v)
hands_out setup id v hosts room s h at =
    let game : Game = setup_game setup in
    let same = host_game game s.words s.views id v h at hosts in
    back_game game s.words (set s.views id (handing_out v) ++ handed_out v ∷ []) v same (split_keeps s.words s.views id v hosts (own_game game s.words s.views v same h) at room)

pub comes_back : (setup : Setup) (id : ℕ) (v : Hand) (other : ℕ) (w : Hand) → v.role ≡ Host → w.role ≡ Player → Joins (holds_at setup) id v other w (taken_back v w) nobody
comes_back setup id v other w hosts plays s h at apart there =
    let game : Game = setup_game setup in
    let same = host_game game s.words s.views id v h at hosts in
    let found_there : get_elem? s.views other ≡ some w = elim (at_set s.views id other (taken_back v w) w there) [ inl e ↦ absurd (apart e.0) | inr e ↦ e.1 ] in
    back_game game s.words (set (set s.views id (taken_back v w)) other nobody) v same (join_keeps s.words s.views id v hosts (own_game game s.words s.views v same h) at other w plays apart found_there)

pub reads : (setup : Setup) (slots id : ℕ) (v : Hand) (k : ℕ) → v.role ≡ Host → length v.back ≡ length v.starters → k < SLOTS → Allows (holds_at setup) slots id (v, []) k (λ n. n) (λ n me. HasRead k n v × (me ≡ (v, [])))
reads setup slots id v k hosts all within s h few at small =
    let game : Game = setup_game setup in
    let same = host_game game s.words s.views id v h at hosts in
    let own = own_game game s.words s.views v same h in
    let unchanged : IsWired game (set s.words k (slice_index s.words k)) (set s.views id v) = subst (λ (vs : List Hand). IsWired game (set s.words k (slice_index s.words k)) vs) (sym (set_again s.views id v at)) (subst (λ (ws : List ℕ). IsWired game ws s.views) (sym (set-get_or s.words k 0)) h) in
    (v, keeps, tt, unchanged, (has_read s.words s.views id v hosts own at all k within, refl))
