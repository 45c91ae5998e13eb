-- What players put is filled, and what that makes of a play.
use Rattle.std.proofs.Common.{◌≡◌, ◌↔◌, ◌⊎◌, ℕ, zero, suc, ◌+◌, ◌<◌, ◌≤◌, Bool, true, false, List, [], ◌∷◌, ◌++◌, length, map, take, Some, refl, sym, ap, ◌∙◌, subst, arith, inl, inr}
use Rattle.std.specs.Prelude.{All, slice_get, Result, Ok, Err, IfOk}
use Rattle.std.specs.List.{slice_index_or, list_all, range_with_len}
use Rattle.std.proofs.lemmas.List.FromFn.{length-range_with_len}
use Rattle.std.proofs.lemmas.List.{length-map, get_or_append_left, take-append-le, take_all, length_push}
use Rattle.std.proofs.lemmas.List.Elements.{All-nil, All-cons, All-map}
use Rattle.std.proofs.lemmas.Bool.{cases_lt}
use Rattle.message_tree.specs.declared.items.Item.{Item}
use Rattle.message_tree.specs.declared.items.Item.TheVariants.{Sent}
use Rattle.places.specs.declared.offers.Offered.{Offered}
use Rattle.places.specs.Offers.{MayPut}
use Rattle.plays.specs.declared.puts.Put.{Put}
use Rattle.plays.specs.declared.puts.Put.TheVariants.{Listen}
use Rattle.bus_bench.specs.Seats as seats
use Rattle.bus_bench.specs.Seats.{BenchName, fresh, game_of, participant, MayOffer, HasPutHere, Saw, after_put, after_slot, standing_behind}
use Rattle.bus_bench.specs.declared.errors.Sight.{Sight}
use Rattle.bus_bench.specs.declared.errors.Sight.TheVariants as sight
use Rattle.bus_bench.specs.Finishing.{AreAll, IsFinished, is_done, is_over}
use Rattle.bus_bench.specs.declared.seats.Standing.{Standing}
use Rattle.bus_bench.specs.declared.seats.Standing.TheVariants as standing
use Rattle.bus_bench.proofs.ViewLemmas.{place_of}
use Rattle.bench_run.specs.declared.players.Player.{Player}
use Rattle.bench_run.specs.declared.players.Stage.{Stage}
use Rattle.bench_run.specs.declared.players.Stage.TheVariants.{Puts, Looks, Over}
use Rattle.bench_run.specs.Filled.{IsFilling, MaySendEither, AreFilled, IsRehearsed}
use Rattle.bench_run.specs.Players.{IsInStep, IsFresh, IsFilledSeat, PlaysOn, IsReady, IsPart}
use Rattle.bench_run.specs.declared.rounds.Part.{Part}

split_at : (k n : ℕ) → k < n + 1 → (k < n) ⊎ (k ≡ n)
split_at k n lt = elim (cases_lt k n) [ inl l ↦ inl l | inr m ↦ inr (omega arith) ]

get_last : (xs : List Put) (x : Put) → slice_index_or (xs ++ x ∷ []) (length xs) Listen ≡ x
get_last [] x = refl
get_last (y ∷ ys) x = get_last ys x

pub filled_put : (fill : Bool) (offered : Offered) (seat : seats.Player) (x : Put) → ((y : Item) → MayPut offered y ↔ MayOffer seat y) → IsFilling offered fill x → IsInStep Puts seat → IsFilledSeat fill seat → IsFilledSeat fill (after_put x seat)
filled_put fill offered seat x may filling step filled k lt either =
    let long : length (seat.puts ++ x ∷ []) ≡ length seat.puts + 1 = length_push seat.puts x in
    elim (split_at k (length seat.puts) (omega (arith, lt, long))) [
      | inl l ↦ get_or_append_left seat.puts (x ∷ []) Listen k l ∙ filled k l either
      | inr e ↦
          let seen : length seat.puts ≡ length seat.seen = step.1 in
          let all : take k seat.seen ≡ seat.seen = ap (λ (n : ℕ). take n seat.seen) (e ∙ seen) ∙ take_all (length seat.seen) seat.seen (omega arith) in
          let here : MaySendEither (game_of seat.bench).plan (participant seat) seat.seen = subst (MaySendEither (game_of seat.bench).plan (participant seat)) all either in
          ap (λ (n : ℕ). slice_index_or (seat.puts ++ x ∷ []) n Listen) e
          ∙ get_last seat.puts x
          ∙ filling.1 ((may (Sent false)).1 (step.0, here.0)) ((may (Sent true)).1 (step.0, here.1))
    ]

-- the seat of a player that plays on, in step with some stage
record IsAt (bench : BenchName) (fill : Bool) (s : seats.Player) : Type 0 where
  pub stage : Stage
  pub seat_of : s.bench ≡ bench
  pub in_step : IsInStep stage s
  pub filled : IsFilledSeat fill s

abbrev seat_in : Player → seats.Player
seat_in p = p.seat

-- a player's puts are filled along the whole wire
along : (fill : Bool) (s : seats.Player) (stage : Stage) (wire rest : List Item) → wire ≡ s.seen ++ rest → IsInStep stage s → IsFilledSeat fill s → AreFilled (game_of s.bench).plan (participant s) fill s.puts wire
along fill s stage wire rest is step filled k lt either =
    let near : k ≤ length s.seen = near_end stage s step k lt in
    let same : take k wire ≡ take k s.seen = ap (take k) is ∙ take-append-le k s.seen rest near in
    filled k lt (subst (MaySendEither (game_of s.bench).plan (participant s)) same either)
  where
    near_end : (stage : Stage) (s : seats.Player) → IsInStep stage s → (k : ℕ) → k < length s.puts → k ≤ length s.seen
    near_end Puts s step k lt = let e = step.1 in omega arith
    near_end Looks s step k lt = let e = step.1 in omega arith
    near_end Over s step k lt = let e = step.1 in omega arith

-- a slot more that is seen
filled_slot : (fill : Bool) (s : seats.Player) (w : Item) (standing : Standing) → HasPutHere s → IsFilledSeat fill s → IsFilledSeat fill (after_slot w standing s)
filled_slot fill s w standing step filled k lt either =
    let near : k ≤ length s.seen = omega (arith, lt, step) in
    let same : take k (s.seen ++ w ∷ []) ≡ take k s.seen = take-append-le k s.seen (w ∷ []) near in
    filled k lt (subst (MaySendEither (game_of s.bench).plan (participant s)) same either)

-- a look changes nothing that was put
seen_on : (fill : Bool) (sight : Sight) (old new : seats.Player) → Saw sight old new → IsFilledSeat fill old → IsFilledSeat fill new
seen_on fill sight.Ended old new saw filled = subst (IsFilledSeat fill) (sym saw.1) filled
seen_on fill sight.NotPut old new saw filled = subst (IsFilledSeat fill) (sym saw.2) filled
seen_on fill sight.Waiting old new saw filled = subst (IsFilledSeat fill) (sym saw.2) filled
seen_on fill (sight.On w) old new saw filled = subst (IsFilledSeat fill) (sym saw.3) (filled_slot fill old w (standing_behind w) saw.1 filled)
seen_on fill (sight.Lost w) old new saw filled = subst (IsFilledSeat fill) (sym saw.3) (filled_slot fill old w standing.Lost saw.1 filled)

-- a player that has looked
pub looks_on : (bench : BenchName) (fill : Bool) (player : Player) (sight : Sight) (new : seats.Player) (stage : Stage) (slot : ℕ) →
    Saw sight player.seat new → new.bench ≡ player.seat.bench → (player.stage ≡ Looks) →
    ((old after : seats.Player) → old.standing ≡ standing.Playing → HasPutHere old → Saw sight old after → IsInStep stage after) →
    PlaysOn bench fill player →
    PlaysOn bench fill (record { seat = new; number = player.number; slot = slot; stage = stage })
looks_on bench fill player sight new stage slot saw same looks next on =
    let step : IsInStep Looks player.seat = subst (λ (s : Stage). IsInStep s player.seat) looks on.in_step in
    record {
      seat_of = same ∙ on.seat_of;
      in_step = next player.seat new step.0 step.1 saw;
      filled = seen_on fill sight player.seat new saw on.filled;
    }

-- a player that has put
pub puts_on : (bench : BenchName) (fill : Bool) (player : Player) (new : seats.Player) (offered : Offered) (x : Put) →
    (player.stage ≡ Puts) → ((y : Item) → MayPut offered y ↔ MayOffer player.seat y) → IsFilling offered fill x → new ≡ after_put x player.seat →
    PlaysOn bench fill player →
    PlaysOn bench fill (record { seat = new; number = player.number; slot = player.slot; stage = Looks })
puts_on bench fill player new offered x puts may filling is on =
    let step : IsInStep Puts player.seat = subst (λ (s : Stage). IsInStep s player.seat) puts on.in_step in
    let long : length (player.seat.puts ++ x ∷ []) ≡ length player.seat.puts + 1 = length_push player.seat.puts x in
    let here : length (player.seat.puts ++ x ∷ []) ≡ length player.seat.seen + 1 = let e = step.1 in omega (arith, long, e) in
    record {
      seat_of = ap (λ (s : seats.Player). s.bench) is ∙ on.seat_of;
      in_step = subst (IsInStep Looks) (sym is) (step.0, here);
      filled = subst (IsFilledSeat fill) (sym is) (filled_put fill offered player.seat x may filling step on.filled);
    }

pub rehearsed : (bench : BenchName) (fill : Bool) (players : List Player) (ss : List seats.Player) (wire : List Item) (won : List ℕ) → ss ≡ map seat_in players → All (PlaysOn bench fill) players → IsFinished bench ss wire won → IsRehearsed (game_of bench) fill wire won
rehearsed bench fill players ss wire won are plays f = record {
  puts = f.all;
  live = f.live;
  play = f.play;
  filled = λ p i.
      let place = place_of bench.starters p i in
      let at = f.each place.0 place.1 in
      let k = at.0 in
      let s = at.1 in
      let got : slice_get (map seat_in players) k ≡ Some s = subst (λ (xs : List seats.Player). slice_get xs k ≡ Some s) are at.2 in
      let on = player_at players plays k s got in
      let same : participant s ≡ p = ap (λ (b : BenchName). slice_index_or b.starters s.number 0) on.seat_of ∙ ap (λ (n : ℕ). slice_index_or bench.starters n 0) at.3 ∙ place.2 in
      let own = f.own k s at.2 in
      let seen = f.seen k s at.2 in
      let filled : AreFilled (game_of s.bench).plan (participant s) fill s.puts wire = along fill s on.stage wire seen.0 seen.1 on.in_step on.filled in
      let filled_here : AreFilled (game_of bench).plan (participant s) fill s.puts wire = subst (λ (b : BenchName). AreFilled (game_of b).plan (participant s) fill s.puts wire) on.seat_of filled in
      let filled_own : AreFilled (game_of bench).plan (participant s) fill (f.all (participant s)) wire = subst (λ (x : List Put). AreFilled (game_of bench).plan (participant s) fill x wire) (sym own) filled_here in
      subst (λ (q : ℕ). AreFilled (game_of bench).plan q fill (f.all q) wire) same filled_own;
  ended = f.ended;
  winners = f.winners_are;
}
  where
    player_at : (players : List Player) → All (PlaysOn bench fill) players → (k : ℕ) (s : seats.Player) → slice_get (map seat_in players) k ≡ Some s → IsAt bench fill s
    player_at [] plays k s got = absurd cc
    player_at (p ∷ ps) plays zero s got =
        let e : p.seat ≡ s = cc in
        let on = plays 0 p (omega arith) in
        subst (IsAt bench fill) e (record { stage = p.stage; seat_of = on.seat_of; in_step = on.in_step; filled = on.filled })
    player_at (p ∷ ps) plays (suc k) s got = player_at ps (λ j d lt. plays (suc j) d (omega (arith, lt))) k s got

pub all_done : (bench : BenchName) (fill : Bool) (players : List Player) → All (PlaysOn bench fill) players → All (λ p. p.stage ≡ Over) players → list_all is_done (map seat_in players) ≡ true
all_done bench fill [] plays over = refl
all_done bench fill (p ∷ ps) plays over =
    let on = plays 0 p (omega arith) in
    let stage : p.stage ≡ Over = over 0 p (omega arith) in
    let step : IsInStep Over p.seat = subst (λ (s : Stage). IsInStep s p.seat) stage on.in_step in
    let head : is_done p.seat ≡ true = not_playing p.seat.standing step.0 in
    let tail : list_all is_done (map seat_in ps) ≡ true = all_done bench fill ps (λ j d lt. plays (suc j) d (omega (arith, lt))) (λ j d lt. over (suc j) d (omega (arith, lt))) in
    grind (arith, head, tail)
  where
    not_playing : (s : Standing) → (s ≡ standing.Playing → ⊥) → is_over s ≡ true
    not_playing standing.Playing n = absurd (n refl)
    not_playing standing.Lost n = refl
    not_playing standing.Ended n = refl

-- the seats of a bench that was opened have put and seen nothing
pub all_fresh : (bench : BenchName) (ns : List ℕ) (ss : List seats.Player) → ss ≡ map (fresh bench) ns → All (IsFresh bench) ss
all_fresh bench ns ss are = subst (All (IsFresh bench)) (sym are) (All-map (IsFresh bench) (fresh bench) ns (λ k d lt. (refl, refl, refl, refl)))

nothing_filled : (bench : BenchName) (fill : Bool) (stage : Stage) (s : seats.Player) → IsFresh bench s → stage ≡ Puts → (s.bench ≡ bench) × IsInStep stage s × IsFilledSeat fill s
nothing_filled bench fill stage s f e = (
  f.0,
  subst (λ (x : Stage). IsInStep x s) (sym e) (f.1, ap length f.2 ∙ sym (ap length f.3)),
  λ k lt either. absurd (let none : length s.puts ≡ 0 = ap length f.2 in omega (arith, none, lt)),
)

-- parts with such seats are ready to be played
pub ready_parts : (bench : BenchName) (fill : Bool) (parts : List Part) → All (IsFresh bench) (map (λ p. p.player.seat) parts) → All (IsReady bench fill) parts → All (IsPart bench fill) parts
ready_parts bench fill [] fresh_seats ready = All-nil (IsPart bench fill)
ready_parts bench fill (p ∷ ps) fresh_seats ready =
    let r = ready 0 p (omega arith) in
    let f : IsFresh bench p.player.seat = fresh_seats 0 p.player.seat (omega arith) in
    let n = nothing_filled bench fill p.player.stage p.player.seat f r.2 in
    All-cons (IsPart bench fill) p ps (r.0, r.1, record { seat_of = n.0; in_step = n.1; filled = n.2 })
    (ready_parts bench fill ps (λ k d lt. fresh_seats (suc k) d (omega (arith, lt))) (λ k d lt. ready (suc k) d (omega (arith, lt))))

-- what each thread asks of its part
pub parts_play : (bench : BenchName) (fill : Bool) (parts : List Part) → All (IsPart bench fill) parts → All (λ part. PlaysOn part.bench.now part.fill part.player) parts
parts_play bench fill parts are k d lt =
    let h = are k d lt in
    subst (λ (b : BenchName). PlaysOn b (slice_index_or parts k d).fill (slice_index_or parts k d).player) (sym h.0)
    (subst (λ (f : Bool). PlaysOn bench f (slice_index_or parts k d).player) (sym h.1) h.2)

pub seats_stay : (bench : BenchName) (fill : Bool) (players : List Player) → All (PlaysOn bench fill) players → All (λ s. s.bench ≡ bench) (map seat_in players)
seats_stay bench fill [] plays = All-nil (λ s. s.bench ≡ bench)
seats_stay bench fill (p ∷ ps) plays =
    All-cons (λ s. s.bench ≡ bench) p.seat (map seat_in ps) (plays 0 p (omega arith)).seat_of (seats_stay bench fill ps (λ k d lt. plays (suc k) d (omega (arith, lt))))

-- the seats of a bench are as many as its starters, also when their players have played
pub all_there : (bench : BenchName) (ss given : List seats.Player) (players : List Player) (parts : List Part) →
    given ≡ map (fresh bench) (range_with_len 0 (length bench.starters)) → map (λ p. p.player.seat) parts ≡ given →
    length players ≡ length parts → ss ≡ map seat_in players → AreAll bench ss
all_there bench ss given players parts opened taken many back =
    ap length back ∙ length-map players seat_in ∙ many
    ∙ sym (length-map parts (λ p. p.player.seat)) ∙ ap length (taken ∙ opened)
    ∙ length-map (range_with_len 0 (length bench.starters)) (fresh bench) ∙ length-range_with_len 0 (length bench.starters)

-- what was lent whole comes back whole
pub whole_slice : (len : ℕ) (new rest : List Player) → length new ≡ len → take len (new ++ rest) ≡ new
whole_slice len new rest same =
    ap (λ (n : ℕ). take n (new ++ rest)) (sym same) ∙ take-append-le (length new) new rest (omega arith) ∙ take_all (length new) new (omega arith)

pub both_ok : {X Y : Type 0} (r : Result X Y) (P Q : X → Type 0) → IfOk r P → IfOk r Q → IfOk r (λ x. P x × Q x)
both_ok (Ok x) P Q p q = (p, q)
both_ok (Err e) P Q p q = tt
