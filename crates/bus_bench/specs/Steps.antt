-- What each kind of step tells the one who steps.
use Rattle.std.specs.Prelude.{◌≡◌, ℕ, ◌+◌, ◌<◌, ◌⊎◌, not, if◌then◌else◌, ◌==◌, List, [], ◌∷◌, ◌++◌, length, Some, None, slice_get}
use Rattle.std.specs.List.{slice_index_or}
use Rattle.message_tree.specs.declared.items.Item.{Item}
use Rattle.plan_core.specs.Lawful.{Set}
use Rattle.plan_core.specs.Rounds.{is_item}
use Rattle.plays.specs.declared.puts.Put.{Put}
use Rattle.plays.specs.declared.puts.Put.TheVariants.{Listen}
use Rattle.plays.specs.Games.{Game, answer_at}
use Rattle.plays.specs.Plays.{Puts, IsPlay, item_of}
use Rattle.plays.specs.Words.{contribution, word_of, arrivals_in, shown_in, left_in}
use Rattle.bus_bench.specs.declared.hands.Hand.{Hand}
use Rattle.bus_bench.specs.declared.hands.Told.{Told}
use Rattle.bus_bench.specs.declared.hands.Role.TheVariants.{Player, Nobody}
use Rattle.bus_bench.specs.Hands.{hand_game, starter}
use Rattle.bus_bench.specs.Rule.{none_told, Knows}

-- There is a play of all starters in which p has put just this, and whose wire begins with this.
pub record IsPlayed (game : Game) (p : ℕ) (puts : List Put) (seen : List Item) : Type 0 where
  pub all : Puts
  pub wire : List Item
  pub live : Set
  pub play : IsPlay game all wire live
  pub own : all p ≡ puts
  pub rest : List Item
  pub begins : wire ≡ seen ++ rest

-- The same, and its wire is just this.
pub record IsJust (game : Game) (p : ℕ) (puts : List Put) (seen : List Item) : Type 0 where
  pub all : Puts
  pub live : Set
  pub play : IsPlay game all seen live
  pub own : all p ≡ puts

-- a player's own, of what there is in a hand
abbrev pub HandPlayed : Hand → Type 0
HandPlayed v = IsPlayed (hand_game v) (starter (hand_game v) v.seat) v.told.puts v.told.seen

abbrev pub put_on : Put → Told → Told
put_on x t = record t { puts = t.puts ++ x ∷ [] }

-- a put with this contribution was added to the player's
abbrev pub HasPut : ℕ → Hand → Hand → Type 0
HasPut n v w = HandPlayed w × ((x : Put) → contribution x ≡ n → w ≡ record v { told = put_on x v.told })

-- the item that the player put in the slot that it looks at
abbrev pub own_item : Hand → Item
own_item v = item_of v.answers (length v.told.seen) (slice_index_or v.told.puts (length v.told.seen) Listen)

-- the wire's item in that slot, by its word
abbrev pub item_shown : ℕ → Hand → Item
item_shown n v = shown_in n (answer_at v.answers (length v.told.seen))

abbrev pub seen_on : ℕ → Hand → Told
seen_on n v = record {
  puts = v.told.puts;
  seen = v.told.seen ++ item_shown n v ∷ [];
  out = not (is_item (own_item v) (item_shown n v));
  live = left_in n v.told.live;
}

-- Where as many have put as are live, the slot is complete, and its item was seen. Else nothing was, and there is a play
-- with just the wire that was seen before: fewer have put.
abbrev pub HasSeen : ℕ → Hand → Hand → Type 0
HasSeen n v w =
    ((arrivals_in n ≡ v.told.live) × (w ≡ record v { told = seen_on n v }) × HandPlayed w)
    ⊎ ((arrivals_in n < v.told.live) × (w ≡ v) × IsJust (hand_game v) (starter (hand_game v) v.seat) v.told.puts v.told.seen)

-- the puts that the seats which came back have made
abbrev pub puts_back : Game → List (ℕ × Told) → Puts
puts_back game [] p = []
puts_back game (e ∷ es) p = if p == starter game e.0 then e.1.puts else puts_back game es p

-- All seats have come back: their puts are a play, each of them has seen what it has passed, and this word counts them.
pub record HasRead (k found : ℕ) (v : Hand) : Type 0 where
  pub wire : List Item
  pub live : Set
  pub play : IsPlay (hand_game v) (puts_back (hand_game v) v.back) wire live
  pub each : (j : ℕ) (e : ℕ × Told) → slice_get v.back j ≡ Some e → Knows (hand_game v) (puts_back (hand_game v) v.back) wire live (starter (hand_game v) e.0) e.1
  pub all : (j : ℕ) → j < length v.starters → (k : ℕ) × (e : ℕ × Told) × (slice_get v.back k ≡ Some e) × (e.0 ≡ j)
  pub word : found ≡ word_of v.starters (puts_back (hand_game v) v.back) k

abbrev pub handing_out : Hand → Hand
handing_out v = record v { seat = v.seat + 1 }

-- a seat with nothing put and nothing seen: all starters are live
abbrev pub handed_out : Hand → Hand
handed_out v = record v { role = Player; told = record none_told { live = length v.starters }; back = [] }

abbrev pub taken_back : Hand → Hand → Hand
taken_back v w = record v { back = v.back ++ (w.seat, w.told) ∷ [] }

abbrev pub nobody : Hand
nobody = record { plan = None; starters = []; answers = []; role = Nobody; seat = 0; told = none_told; back = [] }
