-- Unsafe pairs in groups of one cause each.
use Rattle.std.specs.Prelude.{◌≡◌, ◌↔◌, ◌⊎◌, ℕ, ◌<◌, ◌≤◌, nat_eq, List, length, Some, slice_get}
use Rattle.std.specs.List.{count_by}
use Rattle.causes.specs.declared.groups.Group.{Group}
use Rattle.causes.specs.declared.groups.Groups as value
use Rattle.causes.specs.declared.meetings.Cause.{Cause}

-- of two pairs, each by the length of its wire and its place: the shorter wire comes first, and of one length the first pair
abbrev pub IsNoLater : ℕ × ℕ → ℕ × ℕ → Type 0
IsNoLater p q = (p.0 < q.0) ⊎ ((p.0 ≡ q.0) × (p.1 ≤ q.1))

-- For each of some pairs there is its cause, the length of its wire, and the number of its group.
pub record AreGroups (causes : List Cause) (wires : List ℕ) (groups : List Group) (numbers : List ℕ) : Type 0 where
  -- each pair stands in one group
  pub whole : length numbers ≡ length causes
  pub in_one : (k g : ℕ) → slice_get numbers k ≡ Some g → g < length groups
  -- whose cause it has
  pub own : (k g : ℕ) (group : Group) → slice_get numbers k ≡ Some g → slice_get groups g ≡ Some group → slice_get causes k ≡ Some group.cause
  -- two stand in one group exactly where they have one cause
  pub same : (j k g h : ℕ) → slice_get numbers j ≡ Some g → slice_get numbers k ≡ Some h → (g ≡ h) ↔ (slice_get causes j ≡ slice_get causes k)
  -- so two groups have different causes
  pub distinct : (g h : ℕ) (a b : Group) → slice_get groups g ≡ Some a → slice_get groups h ≡ Some b → a.cause ≡ b.cause → g ≡ h
  -- a group counts its pairs
  pub counted : (g : ℕ) (group : Group) → slice_get groups g ≡ Some group → group.pairs ≡ count_by (nat_eq g) numbers
  -- its example is one of them
  pub example : (g : ℕ) (group : Group) → slice_get groups g ≡ Some group → slice_get numbers group.example ≡ Some g
  -- no pair of it has a shorter wire, and none before the example has one as short
  pub shortest : (g k l m : ℕ) (group : Group) → slice_get groups g ≡ Some group → slice_get numbers k ≡ Some g → slice_get wires group.example ≡ Some l → slice_get wires k ≡ Some m → IsNoLater (l, group.example) (m, k)
  -- and so the groups stand in order
  pub in_order : (g h l m : ℕ) (a b : Group) → g < h → slice_get groups g ≡ Some a → slice_get groups h ≡ Some b → slice_get wires a.example ≡ Some l → slice_get wires b.example ≡ Some m → IsNoLater (l, a.example) (m, b.example)

abbrev pub group_list : value.Groups → List Group
group_list groups = groups.groups.items

abbrev pub number_list : value.Groups → List ℕ
number_list groups = groups.numbers.items
