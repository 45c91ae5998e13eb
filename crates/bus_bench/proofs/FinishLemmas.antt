-- What comes back to the host, and what it then reads.
use Rattle.std.proofs.Common.{◌≡◌, ◌⊎◌, ℕ, zero, suc, ◌+◌, ◌<◌, ◌≤◌, Bool, true, false, List, [], ◌∷◌, ◌++◌, length, Option, Some, refl, sym, ap, ◌∙◌, subst, arith, inl, inr, append_assoc, append-nil, take, drop, ◌&&◌, ◌||◌, ◌==◌}
use Rattle.std.specs.Prelude.{All, slice_get, not, filter, if◌then◌else◌, cond}
use Rattle.std.proofs.lemmas.Bool.Decides.{nat_tests}
use Rattle.std.specs.List.{slice_index_or, list_any, list_all}
use Rattle.std.proofs.lemmas.List.{length-append}
use Rattle.std.proofs.lemmas.Option.{slice_get_within}
use Rattle.atomic_table.specs.Seated.{TableId}
use Rattle.atomic_table.specs.Table.{Me, Joins, Allows}
use Rattle.message_tree.specs.declared.items.Item.{Item}
use Rattle.plan_core.specs.Lawful.{Set, In}
use Rattle.plan_core.specs.Runs.{HasEnded, Whole}
use Rattle.places.specs.declared.cursor.Place.{Place}
use Rattle.plays.specs.declared.puts.Put.{Put}
use Rattle.plays.specs.Games.{Game, IsGame, those, answer_at}
use Rattle.plays.specs.Plays.{Puts, Goes, Leads, IsPlay, here}
use Rattle.plays.specs.Words.{word_of, shown_in, left_in, count_in}
use Rattle.plays.proofs.PlayLemmas.{was_in, is_prefix, not_further, ended_goes_no_further, is_whole}
use Rattle.plays.proofs.SlotLemmas.{Complete, slot_tells}
use Rattle.bus_bench.specs.declared.hands.Hand.{Hand}
use Rattle.bus_bench.specs.declared.hands.Setup.{Setup}
use Rattle.bus_bench.specs.declared.hands.Told.{Told}
use Rattle.bus_bench.specs.declared.hands.Role.TheVariants.{Host}
use Rattle.bus_bench.specs.declared.seats.Standing.{Standing}
use Rattle.bus_bench.specs.declared.seats.Standing.TheVariants.{Playing, Lost, Ended}
use Rattle.bus_bench.specs.Finishing.{IsFinished, is_over, is_done, is_ended, has_won, winners, IsRunLength, IsBack, AreBack, HasBack, IsGivenBack, RunIs, IsReadOut}
use Rattle.bus_bench.specs.Hands.{hand_game, starter}
use Rattle.bus_bench.specs.Rule.{SLOTS, Knows, holds_at}
use Rattle.bus_bench.specs.Seats as seats
use Rattle.bus_bench.specs.Steps.{puts_back, HasRead, taken_back, nobody}
use Rattle.bus_bench.specs.Tickets.{bench_name, IsBench, ticket_bench, player_of, is_lost, IsSeat, StandsSo}
use Rattle.bus_bench.proofs.ViewLemmas.{place_of, all_count}
use Rattle.bus_bench.proofs.StepLemmas.{comes_back, reads}

-- ---- coming back

pub join_allowed : (bid id other : TableId) (key setup : Setup) (sid oid : ℕ) (host part : Me Unit Hand) (number : ℕ) (place : Place) (own : Option Put) (slot live : ℕ) (standing : Standing) (seat : seats.Player)
    → IsBench bid key setup → host.0.role ≡ Host → bench_name bid setup ≡ ticket_bench id host → IsSeat part number place own slot live standing → player_of other part standing ≡ seat → seat.bench ≡ bench_name bid setup
    → (id ≡ bid) × (other ≡ bid) × (part.1 ≡ []) × (0 < bid.words) × Joins (holds_at key) sid host.0 oid part.0 (taken_back host.0 part.0) nobody
join_allowed bid id other key setup sid oid host part number place own slot live standing seat b hosts named s view of =
    let words : bid.words ≡ SLOTS = b.words in (
      (λ i. (sym named i).wire),
      (λ i. (view i).bench.wire) ∙ (λ i. (of i).wire),
      s.slots,
      omega arith,
      comes_back key sid host.0 oid part.0 hosts s.plays,
    )

end_seen : (standing : Standing) (v : Hand) (place : Place) (own : Option Put) (slot live : ℕ) → StandsSo standing v place own slot live → standing ≡ Ended → HasEnded v.told.seen
end_seen Ended v place own slot live s e = s.0
end_seen Playing v place own slot live s e = absurd cc
end_seen Lost v place own slot live s e = absurd cc

pub given_back : (other : TableId) (host host' part : Me Unit Hand) (number : ℕ) (place : Place) (own : Option Put) (slot live : ℕ) (standing : Standing) (seat : seats.Player)
    → IsSeat part number place own slot live standing → player_of other part standing ≡ seat → host' ≡ (taken_back host.0 part.0, host.1) → IsGivenBack seat host host'
given_back other host host' part number place own slot live standing seat s view is = record {
  entry = (part.0.seat, part.0.told);
  is_back = record {
    place = λ i. (view i).number;
    puts = λ i. (view i).puts;
    seen = λ i. (view i).seen;
    out = s.out ∙ (λ i. is_lost (view i).standing);
    end = λ e. subst HasEnded (λ i. (view i).seen) (end_seen standing part.0 place own slot live s.stands ((λ i. (view i).standing) ∙ e));
  };
  hand = is;
}

are_back_end : (es : List (ℕ × Told)) (ss : List seats.Player) (e : ℕ × Told) (s : seats.Player) → AreBack es ss → IsBack e s → AreBack (es ++ e ∷ []) (ss ++ s ∷ [])
are_back_end [] [] e s are is = (is, tt)
are_back_end [] (t ∷ ss) e s are is = absurd are
are_back_end (d ∷ es) [] e s are is = absurd are
are_back_end (d ∷ es) (t ∷ ss) e s are is = (are.0, are_back_end es ss e s are.1 is)

pub one_more_back : (bench : seats.BenchName) (ss : List seats.Player) (seat : seats.Player) (id id' : TableId) (me me' : Me Unit Hand) → HasBack bench ss id me → id' ≡ id → IsGivenBack seat me me' → HasBack bench (ss ++ seat ∷ []) id' me'
one_more_back bench ss seat id id' me me' h same g =
    subst (λ (y : TableId × Me Unit Hand). HasBack bench (ss ++ seat ∷ []) y.0 y.1) (λ i. (sym same i, sym g.hand i))
    (record { named = h.named; slots = h.slots; hosts = h.hosts; back = are_back_end me.0.back ss g.entry seat h.back g.is_back })

-- ---- reading the wire

-- The host knows a play, which has ended after n slots, and that every starter's seat has come back. The wire so far is
-- one that the play has passed, with so many live.
pub record IsReading (v : Hand) (n : ℕ) (so_far : List Item) (live : ℕ) : Type 0 where
  pub wire : List Item
  pub on : Set
  pub play : IsPlay (hand_game v) (puts_back (hand_game v) v.back) wire on
  pub ended : HasEnded wire
  pub long : n ≡ length wire
  pub each : (j : ℕ) (e : ℕ × Told) → slice_get v.back j ≡ Some e → Knows (hand_game v) (puts_back (hand_game v) v.back) wire on (starter (hand_game v) e.0) e.1
  pub all : (j : ℕ) → j < length v.starters → (k : ℕ) × (e : ℕ × Told) × (slice_get v.back k ≡ Some e) × (e.0 ≡ j)
  pub among : Set
  pub led : Leads (hand_game v) (puts_back (hand_game v) v.back) so_far among
  pub goes : Goes (hand_game v) (puts_back (hand_game v) v.back) so_far among wire on
  pub count : count_in v.starters among ≡ live

-- who is live at the end has not lost
not_out : (b c : Bool) → b ≡ true → b ≡ not c → c ≡ false
not_out true false e f = refl
not_out true true e f = absurd cc
not_out false c e f = absurd cc

pub learned : (v : Hand) (k found n live : ℕ) → IsGame (hand_game v) → HasRead k found v → RunIs v n → live ≡ length v.starters → IsReading v n [] live
learned v k found n live valid r runs count =
    let game : Game = hand_game v in
    let puts : Puts = puts_back game v.back in
    let last = r.play.last in
    let started : In last.0 (those v.starters) = was_in game puts [] r.wire (those v.starters) r.live last.0 r.play.led last.1 in
    let at_p = place_of v.starters last.0 started in
    let c = r.all at_p.0 at_p.1 in
    let p_is : starter game c.1.0 ≡ last.0 = ap (starter game) c.3 ∙ at_p.2 in
    let knows = r.each c.0 c.1 c.2 in
    let is_live : In (starter game c.1.0) knows.among = was_in game puts c.1.1.seen r.wire knows.among r.live (starter game c.1.0) knows.goes (ap r.live p_is ∙ last.1) in
    let end = runs c.0 c.1 c.2 (not_out (knows.among (starter game c.1.0)) c.1.1.out is_live knows.here) in
    let knows_end = r.each end.0 end.1 end.2 in
    let wire_is : r.wire ≡ end.1.1.seen = ended_goes_no_further game puts end.1.1.seen r.wire knows_end.among r.live valid end.3 knows_end.goes in
    record {
      wire = r.wire;
      on = r.live;
      play = r.play;
      ended = subst HasEnded (sym wire_is) end.3;
      long = end.4 ∙ ap length (sym wire_is);
      each = r.each;
      all = r.all;
      among = those v.starters;
      led = here;
      goes = r.play.led;
      count = all_count v.starters ∙ sym count;
    }

pub read_on : (v : Hand) (n : ℕ) (so_far : List Item) (live slot found : ℕ) (shown : Item) (left : ℕ) → IsGame (hand_game v) → IsReading v n so_far live → HasRead slot found v → length so_far ≡ slot → slot < n
    → shown ≡ shown_in found (answer_at v.answers slot) → left ≡ left_in found live → IsReading v n (so_far ++ shown ∷ []) left
read_on v n so_far live slot found shown left valid h r long lt shown_is left_is =
    elim (slot_tells (hand_game v) (puts_back (hand_game v) v.back) so_far h.wire h.among h.on valid h.play h.led h.goes) [
      | inl o ↦ let same : length h.wire ≡ length so_far = ap length o.wire in let m : n ≡ length h.wire = h.long in absurd (omega arith)
      | inr c ↦
          let word : found ≡ word_of v.starters (puts_back (hand_game v) v.back) (length so_far) = r.word ∙ ap (word_of v.starters (puts_back (hand_game v) v.back)) (sym long) in
          let item_is : c.shown ≡ shown = c.is_shown ∙ (λ i. shown_in (sym word i) (answer_at v.answers (long i))) ∙ sym shown_is in
          after c word item_is
    ]
  where
    after : (c : Complete (hand_game v) (puts_back (hand_game v) v.back) so_far h.wire h.among h.on) → found ≡ word_of v.starters (puts_back (hand_game v) v.back) (length so_far) → c.shown ≡ shown → IsReading v n (so_far ++ shown ∷ []) left
    after c word item_is =
        let next : List Item → Item → List Item = λ u w. u ++ w ∷ [] in
        subst (λ (w : Item). IsReading v n (so_far ++ w ∷ []) left) item_is (record {
          wire = h.wire;
          on = h.on;
          play = h.play;
          ended = h.ended;
          long = h.long;
          each = h.each;
          all = h.all;
          among = _;
          led = c.led;
          goes = c.goes;
          count = c.left ∙ (λ i. left_in (sym word i) (h.count i)) ∙ sym left_is;
        })

same_length : (u rest : List Item) → length (u ++ rest) ≡ length u → u ++ rest ≡ u
same_length u [] e = append-nil u
same_length u (x ∷ rest) e = let a : length (u ++ x ∷ rest) ≡ length u + length (x ∷ rest) = length-append u (x ∷ rest) in absurd (omega arith)

pub read_out : (v : Hand) (n : ℕ) (so_far : List Item) (live : ℕ) → IsReading v n so_far live → length so_far ≡ n → IsReadOut v so_far
read_out v n so_far live h long =
    let front = is_prefix (hand_game v) (puts_back (hand_game v) v.back) so_far h.wire h.among h.on h.goes in
    let wire_is : h.wire ≡ so_far = front.1 ∙ same_length so_far front.0 (ap length (sym front.1) ∙ sym h.long ∙ sym long) in
    subst (IsReadOut v) wire_is (record { live = h.on; play = h.play; ended = h.ended; each = h.each; all = h.all })

pub read_allowed : (id bid : TableId) (key setup : Setup) (sid : ℕ) (me : Me Unit Hand) (k : ℕ) → bench_name bid setup ≡ ticket_bench id me → IsBench bid key setup → me.1 ≡ [] → me.0.role ≡ Host → length me.0.back ≡ length me.0.starters → k < SLOTS
    → (id ≡ bid) × (k < bid.words) × Allows (holds_at key) bid.slots sid me k (λ n. n) (λ n m. HasRead k n me.0 × (m ≡ me))
read_allowed id bid key setup sid me k named b slots hosts all lt =
    let words : bid.words ≡ SLOTS = b.words in
    let base = reads key bid.slots sid me.0 k hosts all lt in (
      (λ i. (sym named i).wire),
      omega arith,
      subst (λ (xs : List (ℕ × Unit)). Allows (holds_at key) bid.slots sid (me.0, xs) k (λ n. n) (λ n m. HasRead k n me.0 × (m ≡ (me.0, xs)))) (sym slots) base,
    )

-- the host's game is the bench's
pub host_game_valid : (id bid : TableId) (key setup : Setup) (me : Me Unit Hand) → bench_name bid setup ≡ ticket_bench id me → IsBench bid key setup → IsGame (hand_game me.0)
host_game_valid id bid key setup me named b = subst IsGame (λ i. seats.game_of (named i)) b.valid

-- ---- what was played

back_at : (es : List (ℕ × Told)) (ss : List seats.Player) (k : ℕ) (s : seats.Player) → AreBack es ss → slice_get ss k ≡ Some s → (e : ℕ × Told) × (slice_get es k ≡ Some e) × IsBack e s
back_at [] [] k s are at = absurd cc
back_at [] (t ∷ ss) k s are at = absurd are
back_at (e ∷ es) [] k s are at = absurd are
back_at (e ∷ es) (t ∷ ss) zero s are at = let same : t ≡ s = cc in (e, refl, subst (IsBack e) same are.0)
back_at (e ∷ es) (t ∷ ss) (suc k) s are at = back_at es ss k s are.1 at

seat_at : (es : List (ℕ × Told)) (ss : List seats.Player) (k : ℕ) (e : ℕ × Told) → AreBack es ss → slice_get es k ≡ Some e → (s : seats.Player) × (slice_get ss k ≡ Some s) × IsBack e s
seat_at [] [] k e are at = absurd cc
seat_at [] (t ∷ ss) k e are at = absurd are
seat_at (d ∷ es) [] k e are at = absurd are
seat_at (d ∷ es) (t ∷ ss) zero e are at = let same : d ≡ e = cc in (t, refl, subst (λ (x : ℕ × Told). IsBack x t) same are.0)
seat_at (d ∷ es) (t ∷ ss) (suc k) e are at = seat_at es ss k e are.1 at

pub as_many_back : (es : List (ℕ × Told)) (ss : List seats.Player) → AreBack es ss → length es ≡ length ss
as_many_back [] [] are = refl
as_many_back [] (s ∷ ss) are = absurd are
as_many_back (e ∷ es) [] are = absurd are
as_many_back (e ∷ es) (s ∷ ss) are = ap suc (as_many_back es ss are.1)

and_true : (a b : Bool) → a && b ≡ true → (a ≡ true) × (b ≡ true)
and_true true true e = (refl, refl)
and_true true false e = absurd cc
and_true false b e = absurd cc

true_and : (a b : Bool) → a ≡ true → b ≡ true → a && b ≡ true
true_and a b e f = cc

or_cases : (a b : Bool) → a || b ≡ true → (a ≡ true) ⊎ (b ≡ true)
or_cases true b e = inl refl
or_cases false b e = inr e

done_at : (ss : List seats.Player) (k : ℕ) (s : seats.Player) → list_all is_done ss ≡ true → slice_get ss k ≡ Some s → is_over s.standing ≡ true
done_at [] k s all at = absurd cc
done_at (t ∷ ss) zero s all at = let same : t ≡ s = cc in ap (λ (x : seats.Player). is_over x.standing) (sym same) ∙ (and_true (is_done t) (list_all is_done ss) all).0
done_at (t ∷ ss) (suc k) s all at = done_at ss k s (and_true (is_done t) (list_all is_done ss) all).1 at

any_at : (f : seats.Player → Bool) (ss : List seats.Player) (k : ℕ) (s : seats.Player) → slice_get ss k ≡ Some s → f s ≡ true → list_any f ss ≡ true
any_at f [] k s at e = absurd cc
any_at f (t ∷ ss) zero s at e = let same : t ≡ s = cc in let here' : f t ≡ true = ap f same ∙ e in ap (λ (b : Bool). b || list_any f ss) here'
any_at f (t ∷ ss) (suc k) s at e = let rest = any_at f ss k s at e in either_or (f t) (list_any f ss) rest
  where
    either_or : (a b : Bool) → b ≡ true → a || b ≡ true
    either_or true b e = refl
    either_or false b e = e

at_any : (f : seats.Player → Bool) (ss : List seats.Player) → list_any f ss ≡ true → (k : ℕ) × (s : seats.Player) × (slice_get ss k ≡ Some s) × (f s ≡ true)
at_any f [] any = absurd cc
at_any f (t ∷ ss) any = elim (or_cases (f t) (list_any f ss) any) [
  | inl e ↦ (0, t, refl, e)
  | inr e ↦ let r = at_any f ss e in (suc r.0, r.1, r.2, r.3)
]

ended_is : (standing : Standing) → is_ended standing ≡ true → standing ≡ Ended
ended_is Ended e = refl
ended_is Playing e = absurd cc
ended_is Lost e = absurd cc

-- who isn't out has seen the end
not_lost_ended : (standing : Standing) (out : Bool) → is_over standing ≡ true → out ≡ is_lost standing → out ≡ false → standing ≡ Ended
not_lost_ended Ended out over is e = refl
not_lost_ended Lost out over is e = absurd cc
not_lost_ended Playing out over is e = absurd cc

pub runs_are : (v : Hand) (ss : List seats.Player) (n : ℕ) → AreBack v.back ss → list_all is_done ss ≡ true → IsRunLength ss n → RunIs v n
runs_are v ss n are done run k e at out =
    let s = seat_at v.back ss k e are at in
    let ended = not_lost_ended s.0.standing e.1.out (done_at ss k s.0 done s.1) s.2.out out in
    let some = run.1 (any_at (λ t. is_ended t.standing) ss k s.0 s.1 (ap is_ended ended)) in
    let f = back_at v.back ss some.0 some.1 are some.2 in
    (some.0, f.0, f.1, subst HasEnded (sym f.2.seen) (f.2.end some.3), some.4 ∙ ap length (sym f.2.seen))

same_or_not : (a b : Bool) → (a ≡ true → b ≡ true) → (b ≡ true → a ≡ true) → a ≡ b
same_or_not true b f g = sym (f refl)
same_or_not false true f g = g refl
same_or_not false false f g = refl

chosen_by : (b : Bool) (u v : List ℕ) → (if b then u else v) ≡ cond b u v
chosen_by true u v = refl
chosen_by false u v = refl

-- the winners, from some place on
winners_from : (ss : List seats.Player) (live : Set) (xs : List ℕ) (j : ℕ) → ((i : ℕ) → i < length xs → has_won ss (j + i) ≡ live (slice_index_or xs i 0)) → winners ss j xs ≡ filter live xs
winners_from ss live [] j each = refl
winners_from ss live (x ∷ xs) j each =
    let start : j + 0 ≡ j = omega arith in
    let here' : has_won ss j ≡ live x = ap (has_won ss) (sym start) ∙ each 0 (omega arith) in
    let rest : winners ss (j + 1) xs ≡ filter live xs = winners_from ss live xs (j + 1) (λ i lt. let step : j + 1 + i ≡ j + suc i = omega arith in ap (has_won ss) step ∙ each (suc i) (omega arith)) in
    (λ i. if here' i then x ∷ rest i else rest i) ∙ filter_is live x xs
  where
    filter_is : (live : Set) (x : ℕ) (xs : List ℕ) → (if live x then x ∷ filter live xs else filter live xs) ≡ filter live (x ∷ xs)
    filter_is live x xs = chosen_by (live x) (x ∷ filter live xs) (filter live xs)

module _ (bench : seats.BenchName) (ss : List seats.Player) (id : TableId) (me : Me Unit Hand) (wire : List Item) (back : HasBack bench ss id me) (of : (k : ℕ) (s : seats.Player) → slice_get ss k ≡ Some s → s.bench ≡ bench) (done : list_all is_done ss ≡ true) (valid : IsGame (hand_game me.0)) (r : IsReadOut me.0 wire) where
  game_is : hand_game me.0 ≡ seats.game_of bench
  game_is = λ i. seats.game_of (sym back.named i)

  -- the seat of the starter with this place was live at the end exactly where its participant was
  won_is_live : (j : ℕ) → j < length me.0.starters → has_won ss j ≡ r.live (starter (hand_game me.0) j)
  won_is_live j lt = same_or_not (has_won ss j) (r.live (starter (hand_game me.0) j)) won live_won
    where
      won : has_won ss j ≡ true → r.live (starter (hand_game me.0) j) ≡ true
      won h =
          let s = at_any (λ t. t.number == j && is_ended t.standing) ss h in
          let both = and_true (s.1.number == j) (is_ended s.1.standing) s.3 in
          let ended = ended_is s.1.standing both.1 in
          let e = back_at me.0.back ss s.0 s.1 back.back s.2 in
          let knows = r.each s.0 e.0 e.1 in
          let end : HasEnded e.0.1.seen = subst HasEnded (sym e.2.seen) (e.2.end ended) in
          let wire_is : wire ≡ e.0.1.seen = ended_goes_no_further (hand_game me.0) (puts_back (hand_game me.0) me.0.back) e.0.1.seen wire knows.among r.live valid end knows.goes in
          let last = r.play.last in
          let was = was_in (hand_game me.0) (puts_back (hand_game me.0) me.0.back) e.0.1.seen wire knows.among r.live last.0 knows.goes last.1 in
          let live_is : r.live ≡ knows.among = (not_further (hand_game me.0) (puts_back (hand_game me.0) me.0.back) e.0.1.seen wire knows.among r.live last.0 knows.goes was (last.2 ∙ ap length wire_is)).1 in
          let number : e.0.0 ≡ j = e.2.place ∙ number_is s.1.number j both.0 in
          let not_out' : e.0.1.out ≡ false = e.2.out ∙ ap is_lost ended in
          let among_is : knows.among (starter (hand_game me.0) e.0.0) ≡ true = knows.here ∙ ap not not_out' in
          (λ i. r.live (starter (hand_game me.0) (sym number i))) ∙ (λ i. live_is i (starter (hand_game me.0) e.0.0)) ∙ among_is
        where
          number_is : (a b : ℕ) → (a == b) ≡ true → a ≡ b
          number_is a b e = grind (arith, nat_tests)

      live_won : r.live (starter (hand_game me.0) j) ≡ true → has_won ss j ≡ true
      live_won h =
          let c = r.all j lt in
          let s = seat_at me.0.back ss c.0 c.1 back.back c.2 in
          let knows = r.each c.0 c.1 c.2 in
          let live_here : r.live (starter (hand_game me.0) c.1.0) ≡ true = ap (λ (k : ℕ). r.live (starter (hand_game me.0) k)) c.3 ∙ h in
          let was : In (starter (hand_game me.0) c.1.0) knows.among = was_in (hand_game me.0) (puts_back (hand_game me.0) me.0.back) c.1.1.seen wire knows.among r.live (starter (hand_game me.0) c.1.0) knows.goes live_here in
          let ended = not_lost_ended s.0.standing c.1.1.out (done_at ss c.0 s.0 done s.1) s.2.out (not_out (knows.among (starter (hand_game me.0) c.1.0)) c.1.1.out was knows.here) in
          let number : (s.0.number == j) ≡ true = same_number s.0.number j (sym s.2.place ∙ c.3) in
          any_at (λ t. t.number == j && is_ended t.standing) ss c.0 s.0 s.1 (true_and (s.0.number == j) (is_ended s.0.standing) number (ap is_ended ended))
        where
          same_number : (a b : ℕ) → a ≡ b → (a == b) ≡ true
          same_number a b e = grind (arith, nat_tests)

  pub finished : (won : List ℕ) → won ≡ winners ss 0 bench.starters → IsFinished bench ss wire won
  finished won won_is =
      let v : Hand = me.0 in
      let puts : Puts = puts_back (hand_game v) v.back in
      record {
        all = puts;
        live = r.live;
        play = subst (λ (g : Game). IsPlay g puts wire r.live) game_is r.play;
        ended = r.ended;
        own = λ k s at.
            let e = back_at v.back ss k s back.back at in
            let knows = r.each k e.0 e.1 in
            let mine : starter (hand_game v) e.0.0 ≡ seats.participant s = λ i. starter ((game_is ∙ ap seats.game_of (sym (of k s at))) i) (e.2.place i) in
            ap puts (sym mine) ∙ knows.made ∙ e.2.puts;
        seen = λ k s at.
            let e = back_at v.back ss k s back.back at in
            let knows = r.each k e.0 e.1 in
            let front = is_prefix (hand_game v) puts e.0.1.seen wire knows.among r.live knows.goes in
            (front.0, front.1 ∙ ap (λ (u : List Item). u ++ front.0) e.2.seen);
        each = λ j lt.
            let many : length bench.starters ≡ length v.starters = λ i. length (back.named i).starters in
            let c = r.all j (omega arith) in
            let s = seat_at v.back ss c.0 c.1 back.back c.2 in
            (c.0, s.0, s.1, sym s.2.place ∙ c.3);
        winners_are = won_is ∙ winners_from ss r.live bench.starters 0 (λ i lt.
            let many : length bench.starters ≡ length v.starters = λ j. length (back.named j).starters in
            let zero_plus : 0 + i ≡ i = omega arith in
            ap (has_won ss) zero_plus ∙ won_is_live i (omega arith) ∙ (λ j. r.live (slice_index_or (sym back.named j).starters i 0)));
        whole = λ p live. subst (λ (g : Game). Whole g.plan p wire) game_is (is_whole (hand_game v) puts wire r.live p r.play.led r.ended live);
      }

-- one starter more was looked at
pub next_winner : (ss : List seats.Player) (xs won new : List ℕ) (n x : ℕ) → n < length xs → x ≡ slice_index_or xs n 0 → new ≡ won ++ (if has_won ss n then x ∷ [] else []) → won ++ winners ss n (drop n xs) ≡ winners ss 0 xs → new ++ winners ss (n + 1) (drop (n + 1) xs) ≡ winners ss 0 xs
next_winner ss xs won new n x lt x_is new_is h =
    ap (λ (ys : List ℕ). ys ++ winners ss (n + 1) (drop (n + 1) xs)) new_is
    ∙ append_assoc won (if has_won ss n then x ∷ [] else []) (winners ss (n + 1) (drop (n + 1) xs))
    ∙ ap (λ (ys : List ℕ). won ++ ys) (front (has_won ss n) x (winners ss (n + 1) (drop (n + 1) xs)) ∙ sym (ap (winners ss n) (drop_here xs n lt ∙ ap (λ (y : ℕ). y ∷ drop (n + 1) xs) (sym x_is))))
    ∙ h
  where
    front : (b : Bool) (x : ℕ) (ys : List ℕ) → (if b then x ∷ [] else []) ++ ys ≡ (if b then x ∷ ys else ys)
    front true x ys = refl
    front false x ys = refl

    drop_here : (xs : List ℕ) (n : ℕ) → n < length xs → drop n xs ≡ slice_index_or xs n 0 ∷ drop (n + 1) xs
    drop_here [] n lt = absurd (omega arith)
    drop_here (x ∷ xs) zero lt = refl
    drop_here (x ∷ xs) (suc n) lt = let s : suc n + 1 ≡ suc (n + 1) = omega arith in drop_here xs n (omega arith) ∙ ap (λ (k : ℕ). slice_index_or xs n 0 ∷ drop k (x ∷ xs)) (sym s)

-- none of the first n has seen the end
pub none_more : (ss : List seats.Player) (n : ℕ) (s : seats.Player) → slice_get ss n ≡ Some s → is_ended s.standing ≡ false → list_any (λ t. is_ended t.standing) (take n ss) ≡ false → list_any (λ t. is_ended t.standing) (take (n + 1) ss) ≡ false
none_more [] n s at e none = absurd cc
none_more (t ∷ ss) zero s at e none = let same : t ≡ s = cc in let f : is_ended t.standing ≡ false = ap (λ (x : seats.Player). is_ended x.standing) same ∙ e in ap (λ (b : Bool). b || false) f
none_more (t ∷ ss) (suc n) s at e none = let step : suc n + 1 ≡ suc (n + 1) = omega arith in let rest = none_more ss n s at e (or_false (is_ended t.standing) (list_any (λ t. is_ended t.standing) (take n ss)) none).1 in let f = (or_false (is_ended t.standing) (list_any (λ t. is_ended t.standing) (take n ss)) none).0 in ap (λ (k : ℕ). list_any (λ t. is_ended t.standing) (take k (t ∷ ss))) step ∙ both_false (is_ended t.standing) (list_any (λ t. is_ended t.standing) (take (n + 1) ss)) f rest
  where
    or_false : (a b : Bool) → a || b ≡ false → (a ≡ false) × (b ≡ false)
    or_false false b e = (refl, e)
    or_false true b e = absurd cc

    both_false : (a b : Bool) → a ≡ false → b ≡ false → a || b ≡ false
    both_false a b e f = cc

-- a seat that saw the end, at this place
pub seen_at : (ss : List seats.Player) (k n : ℕ) (s : seats.Player) → slice_get ss k ≡ Some s → s.standing ≡ Ended → n ≡ length s.seen → n ≤ SLOTS → IsRunLength ss n
seen_at ss k n s at ended long few = (few, λ _. (k, s, at, ended, long))

-- what is known of a seat that saw the end
pub end_slot : (other : TableId) (part : Me Unit Hand) (number : ℕ) (place : Place) (own : Option Put) (slot live : ℕ) (standing : Standing) (s : seats.Player) → IsSeat part number place own slot live standing → standing ≡ Ended → player_of other part standing ≡ s → (s.standing ≡ Ended) × (slot ≡ length s.seen) × (slot ≤ SLOTS)
end_slot other part number place own slot live standing s h e view =
    let st : StandsSo Ended part.0 place own slot live = subst (λ (t : Standing). StandsSo t part.0 place own slot live) e h.stands in
    ((λ i. (sym view i).standing) ∙ e, st.1 ∙ (λ i. length (view i).seen), st.2)

pub nobody_ended : (ss : List seats.Player) → list_any (λ t. is_ended t.standing) ss ≡ false → IsRunLength ss 0
nobody_ended ss none = (omega arith, λ some. absurd cc)

at_or : (ss : List seats.Player) (k : ℕ) (s : seats.Player) → slice_get ss k ≡ Some s → slice_index_or ss k s ≡ s
at_or [] k s at = absurd cc
at_or (t ∷ ss) zero s at = cc
at_or (t ∷ ss) (suc k) s at = at_or ss k s at

pub of_bench : (bench : seats.BenchName) (ss : List seats.Player) → All (λ s. s.bench ≡ bench) ss → (k : ℕ) (s : seats.Player) → slice_get ss k ≡ Some s → s.bench ≡ bench
of_bench bench ss all k s at = ap (λ (t : seats.Player). t.bench) (sym (at_or ss k s at)) ∙ all k s (slice_get_within ss k s at)
