-- Pairs in the order of their wires, and the first of each cause. Only private contracts and proofs use this.
use Rattle.std.specs.Prelude.{◌≡◌, ℕ, ◌<◌, ◌≤◌, List, length, nat_eq, Some, slice_get, take}
use Rattle.std.specs.List.{count_by}
use Rattle.causes.specs.declared.groups.Group.{Group}
use Rattle.causes.specs.declared.meetings.Cause.{Cause}
use Rattle.causes.specs.Groupings.{IsNoLater}

-- the length of each wire, with its place
pub record IsNumbered (wires : List ℕ) (order : List (ℕ × ℕ)) : Type 0 where
  pub whole : length order ≡ length wires
  pub each : (k l : ℕ) → slice_get wires k ≡ Some l → slice_get order k ≡ Some (l, k)

-- the same, the shortest wire first
pub record IsOrder (wires : List ℕ) (order : List (ℕ × ℕ)) : Type 0 where
  pub of : (i : ℕ) (p : ℕ × ℕ) → slice_get order i ≡ Some p → slice_get wires p.1 ≡ Some p.0
  pub all : (k l : ℕ) → slice_get wires k ≡ Some l → (i : ℕ) × (slice_get order i ≡ Some (l, k))
  pub sorted : (i j : ℕ) (p q : ℕ × ℕ) → i ≤ j → slice_get order i ≡ Some p → slice_get order j ≡ Some q → IsNoLater p q

-- this is such an order of as many wires as there are causes
pub record HasOrder (causes : List Cause) (order : List (ℕ × ℕ)) : Type 0 where
  pub wires : List ℕ
  pub whole : length wires ≡ length causes
  pub sorted : IsOrder wires order

-- Of the first n in this order: `keys` are their causes, each once, and `places` has where in the order each first stands.
pub record AreFirsts (causes : List Cause) (order : List (ℕ × ℕ)) (n : ℕ) (keys : List Cause) (places : List ℕ) : Type 0 where
  pub paired : length places ≡ length keys
  pub below : (g i : ℕ) → slice_get places g ≡ Some i → i < n
  pub of : (g i : ℕ) (p : ℕ × ℕ) (c : Cause) → slice_get places g ≡ Some i → slice_get order i ≡ Some p → slice_get keys g ≡ Some c → slice_get causes p.1 ≡ Some c
  pub known : (j : ℕ) (p : ℕ × ℕ) (c : Cause) → j < n → slice_get order j ≡ Some p → slice_get causes p.1 ≡ Some c → (g : ℕ) × (slice_get keys g ≡ Some c)
  pub once : (g h : ℕ) (c : Cause) → slice_get keys g ≡ Some c → slice_get keys h ≡ Some c → g ≡ h
  pub earliest : (g i j : ℕ) (p : ℕ × ℕ) (c : Cause) → slice_get places g ≡ Some i → slice_get keys g ≡ Some c → j < n → slice_get order j ≡ Some p → slice_get causes p.1 ≡ Some c → i ≤ j
  pub ascending : (g h i j : ℕ) → g < h → slice_get places g ≡ Some i → slice_get places h ≡ Some j → i < j

-- for each of the first n causes its place among the keys
pub record AreNumbers (keys causes : List Cause) (n : ℕ) (numbers : List ℕ) : Type 0 where
  pub whole : length numbers ≡ n
  pub each : (k g : ℕ) → slice_get numbers k ≡ Some g → slice_get keys g ≡ slice_get causes k
  pub within : (k g : ℕ) → slice_get numbers k ≡ Some g → g < length keys

-- how often each number below n stands among the first m of these
pub record AreCounts (n : ℕ) (numbers : List ℕ) (m : ℕ) (counts : List ℕ) : Type 0 where
  pub whole : length counts ≡ n
  pub each : (g : ℕ) → g < n → slice_get counts g ≡ Some (count_by (nat_eq g) (take m numbers))

-- each key is a cause of these
abbrev pub AllKnown : List Cause → List Cause → Type 0
AllKnown keys causes = (k : ℕ) (c : Cause) → slice_get causes k ≡ Some c → (g : ℕ) × (slice_get keys g ≡ Some c)

-- the places in this order are below n
abbrev pub IsWithin : ℕ → List (ℕ × ℕ) → Type 0
IsWithin n order = (i : ℕ) (p : ℕ × ℕ) → slice_get order i ≡ Some p → p.1 < n

-- the numbers are below n
abbrev pub AreWithin : ℕ → List ℕ → Type 0
AreWithin n numbers = (k g : ℕ) → slice_get numbers k ≡ Some g → g < n

-- for each of the first n of these places there is a group, with the cause and the place that stand there
pub record AreGroupsAt (causes : List Cause) (order : List (ℕ × ℕ)) (places counts : List ℕ) (n : ℕ) (groups : List Group) : Type 0 where
  pub whole : length groups ≡ n
  pub cause : (g i : ℕ) (p : ℕ × ℕ) (group : Group) → slice_get groups g ≡ Some group → slice_get places g ≡ Some i → slice_get order i ≡ Some p → slice_get causes p.1 ≡ Some group.cause
  pub example : (g i : ℕ) (p : ℕ × ℕ) (group : Group) → slice_get groups g ≡ Some group → slice_get places g ≡ Some i → slice_get order i ≡ Some p → group.example ≡ p.1
  pub pairs : (g : ℕ) (group : Group) → slice_get groups g ≡ Some group → slice_get counts g ≡ Some group.pairs
