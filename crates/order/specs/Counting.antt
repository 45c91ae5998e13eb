-- How totals grow by a pair.
-- Only private contracts and proofs use this.
use Rattle.std.specs.Prelude.{◌≡◌, ℕ, ◌+◌, ◌<◌, ◌^◌, Bool, true, false, Some, List, slice_get, slice_set, slice_index_or}
use Rattle.order.specs.declared.totals.Total.{Total}
use Rattle.order.specs.Totals.{Meeting, first_can, second_can}

-- one more pair, in which this one can win or not, and the other
abbrev pub more : Bool → Bool → Total → Total
more true true t = record { wins = t.wins; may_win = t.may_win + 1; loses = t.loses }
more true false t = record { wins = t.wins + 1; may_win = t.may_win; loses = t.loses }
more false true t = record { wins = t.wins; may_win = t.may_win; loses = t.loses + 1 }
more false false t = t

abbrev pub none : Total
none = record { wins = 0; may_win = 0; loses = 0 }

-- that of participant p
abbrev pub grown : List Total → ℕ → Bool → Bool → List Total
grown totals p can other = slice_set totals p (more can other (slice_index_or totals p none))

-- those of the two
abbrev pub with_meeting : List Total → Meeting → List Total
with_meeting totals m =
    grown (grown totals m.0.0 (first_can m.1) (second_can m.1)) m.0.1 (second_can m.1) (first_can m.1)

-- one more of each is still a u32
pub record HasRoom (t : Total) : Type 0 where
  pub wins : t.wins + 1 < 2 ^ 32
  pub may_win : t.may_win + 1 < 2 ^ 32
  pub loses : t.loses + 1 < 2 ^ 32

abbrev pub HasRoomAt : List Total → ℕ → Type 0
HasRoomAt totals p = (t : Total) → slice_get totals p ≡ Some t → HasRoom t

abbrev pub AllHaveRoom : List Total → Type 0
AllHaveRoom totals = (p : ℕ) → HasRoomAt totals p
