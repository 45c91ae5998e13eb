-- When a bench is finished, what it gives, and why it is not.
use Rattle.std.specs.Prelude.{◌≡◌, ℕ, ◌+◌, ◌<◌, ◌≤◌, Bool, true, false, ◌&&◌, ◌==◌, if◌then◌else◌, List, [], ◌∷◌, ◌++◌, length, filter, Some, slice_get, ⊤}
use Rattle.atomic_table.specs.Seated.{TableId}
use Rattle.atomic_table.specs.Table.{Me}
use Rattle.std.specs.List.{list_any, list_all}
use Rattle.message_tree.specs.declared.items.Item.{Item}
use Rattle.plan_core.specs.Lawful.{Set, In}
use Rattle.plan_core.specs.Runs.{HasEnded, Whole}
use Rattle.plays.specs.Plays.{Puts, IsPlay}
use Rattle.bus_bench.specs.declared.errors.FinishFault.{FinishFault}
use Rattle.bus_bench.specs.declared.errors.FinishFault.TheVariants.{Missing, NotEnded, NoMemory}
use Rattle.bus_bench.specs.declared.hands.Hand.{Hand}
use Rattle.bus_bench.specs.declared.hands.Told.{Told}
use Rattle.bus_bench.specs.declared.seats.Standing.{Standing}
use Rattle.bus_bench.specs.declared.seats.Standing.TheVariants.{Playing, Ended}
use Rattle.bus_bench.specs.Hands.{hand_game, starter}
use Rattle.bus_bench.specs.Rule.{SLOTS, Knows}
use Rattle.bus_bench.specs.declared.hands.Role.TheVariants.{Host}
use Rattle.bus_bench.specs.Seats.{BenchName, Player, game_of, participant}
use Rattle.bus_bench.specs.Steps.{puts_back}
use Rattle.bus_bench.specs.Tickets.{is_lost, ticket_bench}

-- as many as there are starters
abbrev pub AreAll : BenchName → List Player → Type 0
AreAll bench seats = length seats ≡ length bench.starters

abbrev pub is_over : Standing → Bool
is_over Playing = false
is_over _ = true

-- it has answered Lost, or On a STOP or a claim
abbrev pub is_done : Player → Bool
is_done seat = is_over seat.standing

-- What was played: there is one play of all starters in which each of them has put just what its seat has put. It has led
-- to this wire, which has ended, and each seat has seen a beginning of it. The winners are those who are live at its end, in
-- the order of the starters, and each of them stands whole on the wire.
pub record IsFinished (bench : BenchName) (seats : List Player) (wire : List Item) (won : List ℕ) : Type 0 where
  pub all : Puts
  pub live : Set
  pub play : IsPlay (game_of bench) all wire live
  pub ended : HasEnded wire
  pub own : (k : ℕ) (s : Player) → slice_get seats k ≡ Some s → all (participant s) ≡ s.puts
  pub seen : (k : ℕ) (s : Player) → slice_get seats k ≡ Some s → (rest : List Item) × (wire ≡ s.seen ++ rest)
  -- each starter has its seat among these
  pub each : (j : ℕ) → j < length bench.starters → (k : ℕ) × (s : Player) × (slice_get seats k ≡ Some s) × (s.number ≡ j)
  pub winners_are : won ≡ filter live bench.starters
  pub whole : (p : ℕ) → In p live → Whole (game_of bench).plan p wire

abbrev pub IsFinishFault : FinishFault → BenchName → List Player → Type 0
IsFinishFault Missing bench seats = AreAll bench seats → ⊥
IsFinishFault NotEnded bench seats = AreAll bench seats × (list_all is_done seats ≡ false)
IsFinishFault NoMemory bench seats = AreAll bench seats × (list_all is_done seats ≡ true)

-- Only private contracts and proofs use what follows.

abbrev pub is_ended : Standing → Bool
is_ended Ended = true
is_ended _ = false

-- the seat of the starter with this place was live at the end
abbrev pub has_won : List Player → ℕ → Bool
has_won seats j = list_any (λ s. s.number == j && is_ended s.standing) seats

abbrev pub winners : List Player → ℕ → List ℕ → List ℕ
winners seats j [] = []
winners seats j (x ∷ xs) = if has_won seats j then x ∷ winners seats (j + 1) xs else winners seats (j + 1) xs

-- where some seat was live at the end, so many slots were seen by one of them
abbrev pub IsRunLength : List Player → ℕ → Type 0
IsRunLength seats n = (n ≤ SLOTS) × (list_any (λ s. is_ended s.standing) seats ≡ true → (k : ℕ) × (s : Player) × (slice_get seats k ≡ Some s) × (s.standing ≡ Ended) × (n ≡ length s.seen))

-- what came back is what this seat has done
pub record IsBack (e : ℕ × Told) (s : Player) : Type 0 where
  pub place : e.0 ≡ s.number
  pub puts : e.1.puts ≡ s.puts
  pub seen : e.1.seen ≡ s.seen
  pub out : e.1.out ≡ is_lost s.standing
  pub end : s.standing ≡ Ended → HasEnded s.seen

abbrev pub AreBack : List (ℕ × Told) → List Player → Type 0
AreBack [] [] = ⊤
AreBack (e ∷ es) (s ∷ ss) = IsBack e s × AreBack es ss
AreBack _ _ = ⊥

-- the host's ticket once these seats are back
pub record HasBack (bench : BenchName) (seats : List Player) (id : TableId) (me : Me Unit Hand) : Type 0 where
  pub named : bench ≡ ticket_bench id me
  pub slots : me.1 ≡ []
  pub hosts : me.0.role ≡ Host
  pub back : AreBack me.0.back seats

-- the hand after this seat came back, of the hand before
pub record IsGivenBack (seat : Player) (old new : Me Unit Hand) : Type 0 where
  pub entry : ℕ × Told
  pub is_back : IsBack entry seat
  pub hand : new ≡ (record old.0 { back = old.0.back ++ entry ∷ [] }, old.1)

-- where somebody was live at the end, one of them has seen so many slots
abbrev pub RunIs : Hand → ℕ → Type 0
RunIs v n = (k : ℕ) (e : ℕ × Told) → slice_get v.back k ≡ Some e → e.1.out ≡ false → (j : ℕ) × (f : ℕ × Told) × (slice_get v.back j ≡ Some f) × HasEnded f.1.seen × (n ≡ length f.1.seen)

-- the wire of the play that came back, which is this
pub record IsReadOut (v : Hand) (wire : List Item) : Type 0 where
  pub live : Set
  pub play : IsPlay (hand_game v) (puts_back (hand_game v) v.back) wire live
  pub ended : HasEnded wire
  pub each : (j : ℕ) (e : ℕ × Told) → slice_get v.back j ≡ Some e → Knows (hand_game v) (puts_back (hand_game v) v.back) wire live (starter (hand_game v) e.0) e.1
  pub all : (j : ℕ) → j < length v.starters → (k : ℕ) × (e : ℕ × Told) × (slice_get v.back k ≡ Some e) × (e.0 ≡ j)
