-- What a seat is before and after each of its steps.
use Rattle.std.proofs.Common.{◌≡◌, ◌≢◌, ◌↔◌, ℕ, zero, suc, ◌+◌, ◌^◌, ◌%◌, ◌<◌, ◌≤◌, Bool, true, false, List, [], ◌∷◌, ◌++◌, length, Option, Some, None, refl, sym, ap, ◌∙◌, subst, arith, inl, inr, append_assoc}
use Rattle.std.specs.Prelude.{not, take}
use Rattle.std.specs.List.{slice_index_or}
use Rattle.std.proofs.lemmas.List.{length-append}
use Rattle.atomic_table.specs.Seated.{TableId}
use Rattle.atomic_table.specs.Table.{Me, Allows}
use Rattle.message_tree.specs.declared.items.Item.{Item}
use Rattle.message_tree.specs.declared.items.Item.TheVariants as item
use Rattle.plan_core.specs.Participants.{Text}
use Rattle.plan_core.specs.Rounds.{Offers, is_item}
use Rattle.plan_core.proofs.Model.{same_item, item_is_itself}
use Rattle.places.specs.declared.cursor.Place.{Place}
use Rattle.places.specs.Places.{rest_of}
use Rattle.places.specs.Offers.{Begins}
use Rattle.plays.specs.declared.puts.Put.{Put}
use Rattle.plays.specs.declared.puts.Put.TheVariants.{Listen}
use Rattle.plays.specs.Games.{those, answer_at}
use Rattle.plays.specs.Plays.{item_of, item_with, put_in}
use Rattle.plays.specs.Words.{contribution, arrivals_in, shown_in, left_in}
use Rattle.plays.proofs.PlayLemmas.{has_room, was_in}
use Rattle.std.proofs.lemmas.Bool.Decides.{nat_tests}
use Rattle.plan_core.specs.Lawful.{In}
use Rattle.bus_bench.specs.declared.hands.Hand.{Hand}
use Rattle.bus_bench.specs.declared.hands.Setup.{Setup}
use Rattle.bus_bench.specs.declared.seats.Standing.{Standing}
use Rattle.bus_bench.specs.declared.seats.Standing.TheVariants.{Playing, Lost}
use Rattle.bus_bench.specs.Hands.{hand_game, starter}
use Rattle.bus_bench.specs.Rule.{SLOTS, holds_at}
use Rattle.bus_bench.specs.Steps.{IsJust, HandPlayed, put_on, HasPut, own_item, item_shown, seen_on, HasSeen}
use Rattle.bus_bench.specs.Seats as seats
use Rattle.bus_bench.specs.declared.errors.Sight.{Sight}
use Rattle.bus_bench.specs.declared.errors.Sight.TheVariants as sight
use Rattle.bus_bench.specs.Tickets.{bench_name, IsBench, ticket_bench, player_of, is_lost, HasOwn, IsPlaying, StandsSo, IsSeat}
use Rattle.bus_bench.proofs.ViewLemmas.{at_those, one_or_other}
use Rattle.bus_bench.proofs.StepLemmas.{puts, sees}

-- ---- what may be put

-- what may come next of what the seat plays is what its participant may send there
pub may_offer : (v : Hand) (place : Place) (own : Option Put) (slot live : ℕ) (x : Item) → IsPlaying v place own slot live → Begins (rest_of place) x ↔ Offers (hand_game v).plan (starter (hand_game v) v.seat) v.told.seen x
may_offer v place own slot live x s = ((λ b. (b.0, (s.left (x ∷ b.0)).0 b.1)), (λ o. (o.0, (s.left (x ∷ o.0)).1 o.1)))

same_bench : (id bid : TableId) (setup : Setup) (me : Me Unit Hand) → bench_name bid setup ≡ ticket_bench id me → id ≡ bid
same_bench id bid setup me e = λ i. (sym e i).wire

pub put_allowed : (id bid : TableId) (key setup : Setup) (sid : ℕ) (me : Me Unit Hand) (number : ℕ) (place : Place) (slot live k : ℕ) (x : Put)
    → bench_name bid setup ≡ ticket_bench id me → IsBench bid key setup → IsSeat me number place None slot live Playing → Begins (rest_of place) (item_of me.0.answers slot x) → k ≡ contribution x
    → (id ≡ bid) × (slot < bid.words) × Allows (holds_at key) bid.slots sid me slot (λ n. (n + k) % 2 ^ 64) (λ n m. HasPut k me.0 m.0 × (m.1 ≡ me.1))
put_allowed id bid key setup sid me number place slot live k x named b s begins k_is =
    let v : Hand = me.0 in
    let st : IsPlaying v place None slot live = s.stands in
    let begins_here : Begins (rest_of place) (item_of v.answers (length v.told.seen) x) = subst (λ (n : ℕ). Begins (rest_of place) (item_of v.answers n x)) st.in_slot begins in
    let offers : Offers (hand_game v).plan (starter (hand_game v) v.seat) v.told.seen (item_of v.answers (length v.told.seen) x) = (may_offer v place None slot live (item_of v.answers (length v.told.seen) x) st).0 begins_here in
    let room : length v.told.seen < SLOTS = has_room (hand_game v) (starter (hand_game v) v.seat) v.told.seen (item_of v.answers (length v.told.seen) x) s.valid offers in
    let base = puts key bid.slots sid v x (record { plays = s.plays; is_live = s.out; none_yet = st.own_put; offers = offers }) room in
    let words : bid.words ≡ SLOTS = b.words in
    let here : slot ≡ length v.told.seen = st.in_slot in (
      same_bench id bid setup me named,
      omega arith,
      subst (λ (y : List (ℕ × Unit) × ℕ × ℕ). Allows (holds_at key) bid.slots sid (v, y.0) y.1 (λ n. (n + y.2) % 2 ^ 64) (λ n m. HasPut y.2 v m.0 × (m.1 ≡ y.0))) (λ i. (sym s.slots i, sym st.in_slot i, sym k_is i)) base,
    )

pub put_room : (me : Me Unit Hand) (number : ℕ) (place : Place) (slot live : ℕ) (x : Put) → IsSeat me number place None slot live Playing → Begins (rest_of place) (item_of me.0.answers slot x) → length me.0.told.seen < SLOTS
put_room me number place slot live x s begins =
    let v : Hand = me.0 in
    let st : IsPlaying v place None slot live = s.stands in
    let o = (may_offer v place None slot live (item_of v.answers slot x) st).0 begins in
    has_room (hand_game v) (starter (hand_game v) v.seat) v.told.seen (item_of v.answers slot x) s.valid o

-- the same seat with another hand, where the hand says what the seat needs
pub put_done : (me me' : Me Unit Hand) (number : ℕ) (place : Place) (slot live k : ℕ) (x : Put) → IsSeat me number place None slot live Playing → Begins (rest_of place) (item_of me.0.answers slot x) → k ≡ contribution x → HasPut k me.0 me'.0 × (me'.1 ≡ me.1)
    → (me' ≡ (record me.0 { told = put_on x me.0.told }, [])) × IsSeat me' number place (Some x) slot live Playing
put_done me me' number place slot live k x s begins k_is told =
    let v : Hand = me.0 in
    let st : IsPlaying v place None slot live = s.stands in
    let is : me'.0 ≡ record v { told = put_on x v.told } = told.0.1 x (sym k_is) in
    let whole : me' ≡ (record v { told = put_on x v.told }, []) = λ i. (is i, (told.1 ∙ s.slots) i) in
    let played : HandPlayed (record v { told = put_on x v.told }) = subst HandPlayed is told.0.0 in
    let after : IsSeat (record v { told = put_on x v.told }, []) number place (Some x) slot live Playing = record {
      slots = refl;
      plays = s.plays;
      valid = s.valid;
      in_place = s.in_place;
      number_within = s.number_within;
      played = played;
      out = s.out;
      stands = record { in_slot = st.in_slot; few = st.few; alive = st.alive; own_put = (v.told.puts, refl, st.own_put, put_room me number place slot live x s begins); left = st.left };
    } in
    (whole, subst (λ (m : Me Unit Hand). IsSeat m number place (Some x) slot live Playing) (sym whole) after)

-- ---- what is seen

pub see_allowed : (id bid : TableId) (key setup : Setup) (sid : ℕ) (me : Me Unit Hand) (number : ℕ) (place : Place) (slot live : ℕ) (x : Put)
    → bench_name bid setup ≡ ticket_bench id me → IsBench bid key setup → IsSeat me number place (Some x) slot live Playing
    → (id ≡ bid) × (slot < bid.words) × Allows (holds_at key) bid.slots sid me slot (λ n. n) (λ n m. HasSeen n me.0 m.0 × (m.1 ≡ me.1))
see_allowed id bid key setup sid me number place slot live x named b s =
    let v : Hand = me.0 in
    let st : IsPlaying v place (Some x) slot live = s.stands in
    let own = st.own_put in
    let base = sees key bid.slots sid v s.plays s.out own.3 in
    let words : bid.words ≡ SLOTS = b.words in
    let here : slot ≡ length v.told.seen = st.in_slot in
    let room : length v.told.seen < SLOTS = own.3 in (
      same_bench id bid setup me named,
      omega arith,
      subst (λ (y : List (ℕ × Unit) × ℕ). Allows (holds_at key) bid.slots sid (v, y.0) y.1 (λ n. n) (λ n m. HasSeen n v m.0 × (m.1 ≡ y.0))) (λ i. (sym s.slots i, sym st.in_slot i)) base,
    )

-- the seat waits: nothing has changed
pub waited : (me me' : Me Unit Hand) (n live : ℕ) → live ≡ me.0.told.live → arrivals_in n < live → HasSeen n me.0 me'.0 × (me'.1 ≡ me.1)
    → (me' ≡ me) × IsJust (hand_game me.0) (starter (hand_game me.0) me.0.seat) me.0.told.puts me.0.told.seen
waited me me' n live alive lt (inl h, e) = absurd (omega (arith, h.0))
waited me me' n live alive lt (inr h, e) = ((λ i. (h.1 i, e i)), h.2)

-- the slot was complete: what was shown there is seen
pub completed : (me me' : Me Unit Hand) (n live : ℕ) → live ≡ me.0.told.live → (arrivals_in n < live → ⊥) → HasSeen n me.0 me'.0 × (me'.1 ≡ me.1)
    → (me'.0 ≡ record me.0 { told = seen_on n me.0 }) × (me'.1 ≡ me.1) × HandPlayed (record me.0 { told = seen_on n me.0 })
completed me me' n live alive ge (inl h, e) = (h.1, e, subst HandPlayed h.1 h.2)
completed me me' n live alive ge (inr h, e) = absurd (ge (omega (arith, h.0)))

at_last : (before : List Put) (x : Put) (k : ℕ) → length before ≡ k → slice_index_or (before ++ x ∷ []) k Listen ≡ x
at_last [] x zero e = refl
at_last [] x (suc k) e = absurd (omega arith)
at_last (y ∷ before) x zero e = absurd (omega arith)
at_last (y ∷ before) x (suc k) e = at_last before x k (omega arith)

-- what it has put in its slot
pub own_put_is : (v : Hand) (x : Put) → HasOwn (Some x) v.told → own_item v ≡ item_of v.answers (length v.told.seen) x
own_put_is v x own = ap (λ (y : Put). item_of v.answers (length v.told.seen) y) (ap (λ (xs : List Put). slice_index_or xs (length v.told.seen) Listen) own.1 ∙ at_last own.0 x (length v.told.seen) own.2)

take_front : (u rest : List Item) → take (length u) (u ++ rest) ≡ u
take_front [] rest = refl
take_front (x ∷ u) rest = ap (λ (w : List Item). x ∷ w) (take_front u rest)

-- what a seat has put was offered
pub own_offered : (v : Hand) (x : Put) → v.seat < length v.starters → HandPlayed v → HasOwn (Some x) v.told → Offers (hand_game v).plan (starter (hand_game v) v.seat) v.told.seen (own_item v)
own_offered v x number played own =
    let p : ℕ = starter (hand_game v) v.seat in
    let k : ℕ = length v.told.seen in
    let many : length (played.all p) ≡ length own.0 + 1 = ap length (played.own ∙ own.1) ∙ length-append own.0 (x ∷ []) in
    let before : length own.0 ≡ k = own.2 in
    let offered = played.play.offered p k (at_those v.starters v.seat number) (omega arith) in
    let wire : take k played.wire ≡ v.told.seen = ap (take k) played.begins ∙ take_front v.told.seen played.rest in
    let put : put_in (hand_game v) played.all k p ≡ own_item v = ap (λ (xs : List Put). item_of v.answers k (slice_index_or xs k Listen)) played.own in
    subst (λ (y : List Item × Item). Offers (hand_game v).plan p y.0 y.1) (λ i. (wire i, put i)) offered

-- ---- after a slot

differ : (x y : Item) → x ≢ y → is_item x y ≡ false
differ x y n = elim (one_or_other (is_item x y)) [ inl e ↦ absurd (n (same_item x y e)) | inr e ↦ e ]

longer : {X : Type 0} (xs : List X) (x : X) → length (xs ++ x ∷ []) ≡ length xs + 1
longer xs x = length-append xs (x ∷ [])

stands_behind : (w : Item) (v : Hand) (before : List Item) (place : Place) (slot live : ℕ) → v.told.seen ≡ before ++ w ∷ [] → IsPlaying v place None slot live → StandsSo (seats.standing_behind w) v place None slot live
stands_behind item.Stop v before place slot live e s = ((before, inl e), s.in_slot, s.few)
stands_behind item.Claim v before place slot live e s = ((before, inr e), s.in_slot, s.few)
stands_behind (item.Sent b) v before place slot live e s = s
stands_behind (item.Heard b) v before place slot live e s = s
stands_behind item.Again v before place slot live e s = s

not_lost : (w : Item) → is_lost (seats.standing_behind w) ≡ false
not_lost item.Stop = refl
not_lost item.Claim = refl
not_lost (item.Sent b) = refl
not_lost (item.Heard b) = refl
not_lost item.Again = refl

no_id : TableId
no_id = record { words = 0; slots = 0; views_name = 0; atom = 0; block = 0; offset = 0; slot_names = [] }

module _ (id : TableId) (me : Me Unit Hand) (number : ℕ) (place : Place) (x : Put) (slot live n : ℕ) (s : IsSeat me number place (Some x) slot live Playing) (told : HandPlayed (record me.0 { told = seen_on n me.0 })) where
  own_there : own_item me.0 ≡ item_of me.0.answers slot x
  own_there = let st = s.stands in own_put_is me.0 x st.own_put ∙ ap (λ (k : ℕ). item_of me.0.answers k x) (sym st.in_slot)

  shown_there : (bit : Bool) → bit ≡ answer_at me.0.answers slot → shown_in n bit ≡ item_shown n me.0
  shown_there bit e = let st = s.stands in ap (shown_in n) (e ∙ ap (answer_at me.0.answers) st.in_slot)

  pub after_lost : (place' : Place) (own : Option Put) (slot' live' : ℕ) → item_of me.0.answers slot x ≢ item_shown n me.0 → IsSeat (record me.0 { told = seen_on n me.0 }, []) number place' own slot' live' Lost
  after_lost place' own slot' live' n' = record {
    slots = refl;
    plays = s.plays;
    valid = s.valid;
    in_place = s.in_place;
    number_within = s.number_within;
    played = told;
    out = ap not (differ (own_item me.0) (item_shown n me.0) (λ e. n' (sym own_there ∙ e)));
    stands = tt;
  }

  -- the wire's item was offered
  pub begins_shown : item_of me.0.answers slot x ≡ item_shown n me.0 → Begins (rest_of place) (item_shown n me.0)
  begins_shown e =
      let st = s.stands in
      (may_offer me.0 place (Some x) slot live (item_shown n me.0) st).1 (subst (Offers (hand_game me.0).plan (starter (hand_game me.0) me.0.seat) me.0.told.seen) (own_there ∙ e) (own_offered me.0 x s.number_within s.played st.own_put))

  pub after_on : (place' : Place) (live' : ℕ) → item_of me.0.answers slot x ≡ item_shown n me.0 → live' ≡ left_in n live → ((u : List Item) → rest_of place' u ↔ rest_of place (item_shown n me.0 ∷ u))
      → IsSeat (record me.0 { told = seen_on n me.0 }, []) number place' None (slot + 1) live' (seats.standing_behind (item_shown n me.0))
  after_on place' live' e left_is place_is =
      let v : Hand = me.0 in
      let w : Item = item_shown n me.0 in
      let st : IsPlaying v place (Some x) slot live = s.stands in
      let own = st.own_put in
      let after : Hand = record v { told = seen_on n v } in
      let seen_more : length (v.told.seen ++ w ∷ []) ≡ length v.told.seen + 1 = longer v.told.seen w in
      let puts_more : length v.told.puts ≡ length own.0 + 1 = ap length own.1 ∙ longer own.0 x in
      let before : length own.0 ≡ length v.told.seen = own.2 in
      let here : slot ≡ length v.told.seen = st.in_slot in
      let room : length v.told.seen < SLOTS = own.3 in
      let same : own_item v ≡ w = own_there ∙ e in
      let playing : IsPlaying after place' None (slot + 1) live' = record {
        in_slot = omega arith;
        few = omega arith;
        alive = left_is ∙ ap (left_in n) st.alive;
        own_put = omega arith;
        left = λ u.
            let step = place_is u in
            let old = st.left (w ∷ u) in
            let along : v.told.seen ++ w ∷ u ≡ (v.told.seen ++ w ∷ []) ++ u = sym (append_assoc v.told.seen (w ∷ []) u) in (
              (λ r. subst (Text (hand_game v).plan (starter (hand_game v) v.seat)) along (old.0 (step.0 r))),
              (λ t. step.1 (old.1 (subst (Text (hand_game v).plan (starter (hand_game v) v.seat)) (sym along) t))),
            );
      } in
      record {
        slots = refl;
        plays = s.plays;
        valid = s.valid;
        in_place = s.in_place;
        number_within = s.number_within;
        played = told;
        out = ap not (ap (λ (y : Item). is_item y w) same ∙ item_is_itself w) ∙ sym (not_lost w);
        stands = stands_behind w after v.told.seen place' (slot + 1) live' refl playing;
      }

  -- what callers see of it
  has_put_here : seats.HasPutHere (player_of id me Playing)
  has_put_here =
      let st : IsPlaying me.0 place (Some x) slot live = s.stands in
      let own = st.own_put in
      let puts_more : length me.0.told.puts ≡ length own.0 + 1 = ap length own.1 ∙ longer own.0 x in
      let before : length own.0 ≡ length me.0.told.seen = own.2 in
      omega arith

-- the wait of a seat
pub saw_waiting : (id : TableId) (me : Me Unit Hand) (number : ℕ) (place : Place) (x : Put) (slot live : ℕ) (s : IsSeat me number place (Some x) slot live Playing) → IsJust (hand_game me.0) (starter (hand_game me.0) me.0.seat) me.0.told.puts me.0.told.seen → seats.Saw sight.Waiting (player_of id me Playing) (player_of id me Playing)
saw_waiting id me number place x slot live s just = (refl, put_here_now id me number place x slot live s, refl, just)
  where
    put_here_now : (id : TableId) (me : Me Unit Hand) (number : ℕ) (place : Place) (x : Put) (slot live : ℕ) (s : IsSeat me number place (Some x) slot live Playing) → seats.HasPutHere (player_of id me Playing)
    put_here_now id me number place x slot live s =
        let st : IsPlaying me.0 place (Some x) slot live = s.stands in
        let own = st.own_put in
        let puts_more : length me.0.told.puts ≡ length own.0 + 1 = ap length own.1 ∙ longer own.0 x in
        let before : length own.0 ≡ length me.0.told.seen = own.2 in
        omega arith

single : (xs : List ℕ) (q j : ℕ) → length xs ≡ 1 → In q (those xs) → j < length xs → slice_index_or xs j 0 ≡ q
single [] q j one i lt = absurd (omega arith)
single (x ∷ []) q zero one i lt = grind (arith, nat_tests)
single (x ∷ []) q (suc j) one i lt = absurd (omega arith)
single (x ∷ y ∷ xs) q j one i lt = absurd (omega arith)

-- a single starter never waits: somebody who is live has not put
pub never_alone : (id : TableId) (me : Me Unit Hand) (number : ℕ) (place : Place) (x : Put) (slot live : ℕ) (s : IsSeat me number place (Some x) slot live Playing) → IsJust (hand_game me.0) (starter (hand_game me.0) me.0.seat) me.0.told.puts me.0.told.seen → length me.0.starters ≡ 1 → ⊥
never_alone id me number place x slot live s just one =
    let st : IsPlaying me.0 place (Some x) slot live = s.stands in
    let own = st.own_put in
    let last = just.play.last in
    let started = was_in (hand_game me.0) just.all [] me.0.told.seen (those me.0.starters) just.live last.0 just.play.led last.1 in
    let same : starter (hand_game me.0) me.0.seat ≡ last.0 = single me.0.starters last.0 me.0.seat one started s.number_within in
    let puts_more : length me.0.told.puts ≡ length own.0 + 1 = ap length own.1 ∙ longer own.0 x in
    let before : length own.0 ≡ length me.0.told.seen = own.2 in
    let put : length (just.all last.0) ≡ length me.0.told.puts = ap (λ (q : ℕ). length (just.all q)) (sym same) ∙ ap length just.own in
    let none : length (just.all last.0) ≡ length me.0.told.seen = last.2 in
    omega arith

-- ---- the answers of a look

pub still_waits : (id id' : TableId) (me me' : Me Unit Hand) (number : ℕ) (place : Place) (x : Put) (slot live : ℕ) (standing : Standing) (arrived n : ℕ) (old : seats.Player) → standing ≡ Playing → IsSeat me number place (Some x) slot live Playing
    → id' ≡ id → HasSeen n me.0 me'.0 × (me'.1 ≡ me.1) → arrived ≡ arrivals_in n → arrived < live → player_of id me standing ≡ old
    → seats.Saw sight.Waiting old (player_of id' me' standing)
still_waits id id' me me' number place x slot live standing arrived n old plays s same told count lt view =
    let st : IsPlaying me.0 place (Some x) slot live = s.stands in
    let w = waited me me' n live st.alive (omega arith) told in
    let new_is : player_of id me Playing ≡ player_of id' me' standing = λ i. player_of (sym same i) (sym w.0 i) (sym plays i) in
    let old_is : player_of id me Playing ≡ old = (λ i. player_of id me (sym plays i)) ∙ view in
    subst (λ (y : seats.Player × seats.Player). seats.Saw sight.Waiting y.0 y.1) (λ i. (old_is i, new_is i)) (saw_waiting id me number place x slot live s w.1)

pub never_waits_alone : (id : TableId) (me me' : Me Unit Hand) (number : ℕ) (place : Place) (x : Put) (slot live : ℕ) (standing : Standing) (arrived n : ℕ) (old : seats.Player) → IsSeat me number place (Some x) slot live Playing
    → HasSeen n me.0 me'.0 × (me'.1 ≡ me.1) → arrived ≡ arrivals_in n → arrived < live → player_of id me standing ≡ old → length old.bench.starters ≡ 1 → ⊥
never_waits_alone id me me' number place x slot live standing arrived n old s told count lt view one =
    let st : IsPlaying me.0 place (Some x) slot live = s.stands in
    let w = waited me me' n live st.alive (omega arith) told in
    never_alone id me number place x slot live s w.1 (ap (λ (p : seats.Player). length p.bench.starters) view ∙ one)

-- the item shown and the own item, as the code has them
shown_as : (me : Me Unit Hand) (number : ℕ) (place : Place) (x : Put) (slot live n : ℕ) (bench : seats.BenchName) (id : TableId) (word : ℕ) (bit : Bool) (shown : Item) → IsSeat me number place (Some x) slot live Playing → bench ≡ ticket_bench id me → bit ≡ answer_at bench.answers slot → word ≡ n → shown ≡ shown_in word bit → shown ≡ item_shown n me.0
shown_as me number place x slot live n bench id word bit shown s named b same is =
    let st : IsPlaying me.0 place (Some x) slot live = s.stands in
    is ∙ (λ i. shown_in (same i) (b i)) ∙ ap (shown_in n) (ap (λ (y : seats.BenchName). answer_at y.answers slot) named ∙ ap (answer_at me.0.answers) st.in_slot)

own_as : (me : Me Unit Hand) (slot : ℕ) (x : Put) (bench : seats.BenchName) (id : TableId) (bit : Bool) (own : Item) → bench ≡ ticket_bench id me → bit ≡ answer_at bench.answers slot → own ≡ item_with bit x → own ≡ item_of me.0.answers slot x
own_as me slot x bench id bit own named b is = is ∙ ap (λ (c : Bool). item_with c x) (b ∙ ap (λ (y : seats.BenchName). answer_at y.answers slot) named)

-- what a complete slot leaves
pub record Slot (me me' : Me Unit Hand) (number : ℕ) (place : Place) (x : Put) (slot live n : ℕ) (shown own : Item) : Type 0 where
  pub seat : IsSeat me number place (Some x) slot live Playing
  pub after : me' ≡ (record me.0 { told = seen_on n me.0 }, [])
  pub played : HandPlayed (record me.0 { told = seen_on n me.0 })
  pub shown_is : shown ≡ item_shown n me.0
  pub own_is : own ≡ item_of me.0.answers slot x

pub complete_slot : (id : TableId) (me me' : Me Unit Hand) (number : ℕ) (place : Place) (x : Put) (slot live n word arrived : ℕ) (bench : seats.BenchName) (bit : Bool) (shown own : Item)
    → IsSeat me number place (Some x) slot live Playing → HasSeen n me.0 me'.0 × (me'.1 ≡ me.1) → arrived ≡ arrivals_in n → live ≤ arrived
    → bench ≡ ticket_bench id me → bit ≡ answer_at bench.answers slot → word ≡ n → shown ≡ shown_in word bit → own ≡ item_with bit x
    → Slot me me' number place x slot live n shown own
complete_slot id me me' number place x slot live n word arrived bench bit shown own s told count le named b same is own_is =
    let st : IsPlaying me.0 place (Some x) slot live = s.stands in
    let done = completed me me' n live st.alive (λ lt. omega arith) told in
    record {
      seat = s;
      after = λ i. (done.0 i, (done.1 ∙ s.slots) i);
      played = done.2;
      shown_is = shown_as me number place x slot live n bench id word bit shown s named b same is;
      own_is = own_as me slot x bench id bit own named b own_is;
    }

pub lost_now : (me me' : Me Unit Hand) (number : ℕ) (place place' : Place) (x : Put) (slot live n slot' live' : ℕ) (own' : Option Put) (shown own : Item) → Slot me me' number place x slot live n shown own → own ≢ shown → IsSeat me' number place' own' slot' live' Lost
lost_now me me' number place place' x slot live n slot' live' own' shown own c differ' =
    subst (λ (m : Me Unit Hand). IsSeat m number place' own' slot' live' Lost) (sym c.after)
    (after_lost no_id me number place x slot live n c.seat c.played place' own' slot' live' (λ e. differ' (c.own_is ∙ e ∙ sym c.shown_is)))

pub begins_on : (me me' : Me Unit Hand) (number : ℕ) (place : Place) (x : Put) (slot live n : ℕ) (shown own : Item) → Slot me me' number place x slot live n shown own → own ≡ shown → Begins (rest_of place) shown
begins_on me me' number place x slot live n shown own c e = subst (Begins (rest_of place)) (sym c.shown_is) (begins_shown no_id me number place x slot live n c.seat c.played (sym c.own_is ∙ e ∙ c.shown_is))

pub on_now : (me me' : Me Unit Hand) (number : ℕ) (place place' : Place) (x : Put) (slot live n word live' : ℕ) (shown own : Item) (standing : Standing) → Slot me me' number place x slot live n shown own → own ≡ shown → word ≡ n → live' ≡ left_in word live
    → ((u : List Item) → rest_of place' u ↔ rest_of place (shown ∷ u)) → standing ≡ seats.standing_behind shown → IsSeat me' number place' None (slot + 1) live' standing
on_now me me' number place place' x slot live n word live' shown own standing c e same left_is place_is stands_is =
    subst (λ (y : Me Unit Hand × Standing). IsSeat y.0 number place' None (slot + 1) live' y.1) (λ i. (sym c.after i, sym (stands_is ∙ ap seats.standing_behind c.shown_is) i))
    (after_on no_id me number place x slot live n c.seat c.played place' live' (sym c.own_is ∙ e ∙ c.shown_is) (left_is ∙ ap (λ (k : ℕ). left_in k live) same)
    (λ u. subst (λ (w : Item). rest_of place' u ↔ rest_of place (w ∷ u)) c.shown_is (place_is u)))

own_seen : (id : TableId) (me me' : Me Unit Hand) (number : ℕ) (place : Place) (x : Put) (slot live n : ℕ) (shown own : Item) → Slot me me' number place x slot live n shown own → seats.own_item (player_of id me Playing) ≡ own
own_seen id me me' number place x slot live n shown own c = own_there id me number place x slot live n c.seat c.played ∙ sym c.own_is

pub saw_lost : (id id' : TableId) (me me' : Me Unit Hand) (number : ℕ) (place : Place) (x : Put) (slot live n : ℕ) (standing : Standing) (shown own : Item) (old : seats.Player) → standing ≡ Playing → id' ≡ id → Slot me me' number place x slot live n shown own → own ≢ shown → player_of id me standing ≡ old
    → seats.Saw (sight.Lost shown) old (player_of id' me' Lost)
saw_lost id id' me me' number place x slot live n standing shown own old plays same c other view =
    let old_is : player_of id me Playing ≡ old = (λ i. player_of id me (sym plays i)) ∙ view in
    let new_is : player_of id' me' Lost ≡ seats.after_slot shown Lost (player_of id me Playing) = (λ i. player_of (same i) (c.after i) Lost) ∙ (λ i. seats.after_slot (sym c.shown_is i) Lost (player_of id me Playing)) in
    subst (λ (o : seats.Player). seats.Saw (sight.Lost shown) o (player_of id' me' Lost)) old_is
    (refl, has_put_here id me number place x slot live n c.seat c.played, (λ e. other (sym (own_seen id me me' number place x slot live n shown own c) ∙ e)), new_is)

pub saw_on : (id id' : TableId) (me me' : Me Unit Hand) (number : ℕ) (place : Place) (x : Put) (slot live n : ℕ) (standing standing' : Standing) (shown own : Item) (old : seats.Player) → standing ≡ Playing → id' ≡ id → Slot me me' number place x slot live n shown own → own ≡ shown → standing' ≡ seats.standing_behind shown → player_of id me standing ≡ old
    → seats.Saw (sight.On shown) old (player_of id' me' standing')
saw_on id id' me me' number place x slot live n standing standing' shown own old plays same c e stands view =
    let old_is : player_of id me Playing ≡ old = (λ i. player_of id me (sym plays i)) ∙ view in
    let new_is : player_of id' me' standing' ≡ seats.after_slot shown (seats.standing_behind shown) (player_of id me Playing) = (λ i. player_of (same i) (c.after i) (stands i)) ∙ (λ i. seats.after_slot (sym c.shown_is i) (seats.standing_behind shown) (player_of id me Playing)) in
    subst (λ (o : seats.Player). seats.Saw (sight.On shown) o (player_of id' me' standing')) old_is
    (refl, has_put_here id me number place x slot live n c.seat c.played, own_seen id me me' number place x slot live n shown own c ∙ e, new_is)

pub not_one : (x y : Item) (b : Bool) → b ≡ is_item x y → b ≡ false → x ≢ y
not_one x y b is off e = let same : is_item x y ≡ true = ap (λ (w : Item). is_item w y) e ∙ item_is_itself y in cc

pub is_one : (x y : Item) (b : Bool) → b ≡ is_item x y → b ≡ true → x ≡ y
is_one x y b is on = same_item x y (sym is ∙ on)

-- a seat that has looked is where it was
pub saw_at_bench : (seen : Sight) (old new : seats.Player) → seats.Saw seen old new → new.bench ≡ old.bench
saw_at_bench sight.Ended old new saw = ap (λ (s : seats.Player). s.bench) saw.1
saw_at_bench sight.NotPut old new saw = ap (λ (s : seats.Player). s.bench) saw.2
saw_at_bench sight.Waiting old new saw = ap (λ (s : seats.Player). s.bench) saw.2
saw_at_bench (sight.On w) old new saw = ap (λ (s : seats.Player). s.bench) saw.3
saw_at_bench (sight.Lost w) old new saw = ap (λ (s : seats.Player). s.bench) saw.3
