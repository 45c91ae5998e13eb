-- How the pairs are found by their numbers. Only private contracts and proofs use this.
use Rattle.std.specs.Prelude.{◌≡◌, ℕ, ◌+◌, ◌*◌, ◌<◌, ◌≤◌, Bool, ◌||◌, List, ◌++◌, length, Option, slice_get}
use Rattle.std.specs.List.{slice_index_or}
use Rattle.plan_core.specs.declared.plans.Participant.{Participant}
use Rattle.plan_core.specs.declared.pairs.Row.{Row}
use Rattle.plan_core.specs.declared.pairs.PairTable.{PairTable}
use Rattle.plan_core.specs.Contents.{Contents}
use Rattle.plan_core.specs.Pairs.{partners_by, pairs_by}
use Rattle.plan_core.specs.Participants.{one_controller, forbids_both, apart, participant_count}

-- these two never start together
abbrev pub never_together : List (ℕ × ℕ) → Option Participant → Option Participant → Bool
never_together nevers p q = one_controller p q || forbids_both nevers p q

-- nor do x and y of these participants
abbrev pub are_apart : List (ℕ × ℕ) → List Participant → ℕ → ℕ → Bool
are_apart nevers participants x y = never_together nevers (slice_get participants x) (slice_get participants y)

-- the row of x says how many pairs come before its own, and where its partners stand in the list of all
pub record IsRow (is_apart : ℕ → ℕ → Bool) (n : ℕ) (all : List ℕ) (x : ℕ) (row : Row) : Type 0 where
  pub first : row.first ≡ length (pairs_by is_apart n x)
  pub len : row.len ≡ length (partners_by is_apart n x)
  pub within : row.partners + row.len ≤ length all
  pub partners : (j : ℕ) → j < row.len →
      slice_index_or all (row.partners + j) 0 ≡ slice_index_or (partners_by is_apart n x) j 0

-- the rows of the first k of n participants, and how many pairs they have
pub record AreRows (is_apart : ℕ → ℕ → Bool) (n k : ℕ) (rows : List Row) (all : List ℕ) (count : ℕ) : Type 0 where
  pub sized : length rows ≡ k
  pub row : (x : ℕ) (d : Row) → x < k → IsRow is_apart n all x (slice_index_or rows x d)
  pub pairs : count ≡ length (pairs_by is_apart n k)
  pub few : length all ≤ k * n

abbrev pub IsTable : (ℕ → ℕ → Bool) → ℕ → ℕ → PairTable → Type 0
IsTable is_apart n k table = AreRows is_apart n k table.rows.items table.partners.items table.count

-- the table of a plan
abbrev pub IsPairTable : Contents → PairTable → Type 0
IsPairTable plan = IsTable (apart plan) (participant_count plan) (participant_count plan)

-- a list, and at most n more
pub record Extends (old new : List ℕ) (n : ℕ) : Type 0 where
  pub more : List ℕ
  pub same : new ≡ old ++ more
  pub few : length more ≤ n
