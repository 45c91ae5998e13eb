-- The pairs of a plan: two participants that may start together, the lower number first, in dictionary order.
use Rattle.std.specs.Prelude.{◌≡◌, ℕ, ◌+◌, ◌-◌, ◌<◌, ◌⊎◌, Bool, not, List, map, filter}
use Rattle.std.specs.List.{range_with_len, flat_map}
use Rattle.plan_core.specs.Contents.{Contents}
use Rattle.plan_core.specs.Participants.{participant_count, apart}

-- of the numbers below n, those after x that are not apart from x
abbrev pub partners_by : (ℕ → ℕ → Bool) → ℕ → ℕ → List ℕ
partners_by is_apart n x = filter (λ y. not (is_apart x y)) (range_with_len (x + 1) (n - (x + 1)))

-- of the numbers below n, each two that are not apart and whose lower one is below k
abbrev pub pairs_by : (ℕ → ℕ → Bool) → ℕ → ℕ → List (ℕ × ℕ)
pairs_by is_apart n k = flat_map (λ x. map (λ y. (x, y)) (partners_by is_apart n x)) (range_with_len 0 k)

-- those after x that may start together with x
abbrev pub partners : Contents → ℕ → List ℕ
partners plan = partners_by (apart plan) (participant_count plan)

unfoldable pub pairs_of : Contents → List (ℕ × ℕ)
pairs_of plan = pairs_by (apart plan) (participant_count plan) (participant_count plan)

-- in dictionary order, one pair comes before another
abbrev pub IsBefore : ℕ × ℕ → ℕ × ℕ → Type 0
IsBefore p q = (p.0 < q.0) ⊎ ((p.0 ≡ q.0) × (p.1 < q.1))
