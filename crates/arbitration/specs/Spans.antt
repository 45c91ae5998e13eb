-- The earliest and the latest of some slots.
use Rattle.std.specs.Prelude.{◌≡◌, ℕ, ◌+◌, ◌≤◌, ◌<◌, ◌^◌, min, max, Option, Some, None}
use Rattle.arbitration.specs.declared.spans.Slots.{Slots}

pub record Spans (R : ℕ → Type 0) (slots : Slots) : Type 0 where
  pub earliest : R slots.earliest
  pub latest : R slots.latest
  pub within : (k : ℕ) → R k → (slots.earliest ≤ k) × (k ≤ slots.latest)

-- the earliest and the latest slot in which R may happen, or none where it never happens
abbrev pub IsSpan : (ℕ → Type 0) → Option Slots → Type 0
IsSpan R None = (k : ℕ) → R k → ⊥
IsSpan R (Some slots) = Spans R slots

-- the earlier of the earliest and the later of the latest
abbrev pub union_of : Option Slots → Option Slots → Option Slots
union_of None b = b
union_of (Some s) None = Some s
union_of (Some s) (Some t) = Some (record { earliest = min s.earliest t.earliest; latest = max s.latest t.latest })

-- the same, so many slots later
abbrev pub after_of : ℕ → Option Slots → Option Slots
after_of n None = None
after_of n (Some s) = Some (record { earliest = s.earliest + n; latest = s.latest + n })

-- so many slots later is still a u32
abbrev pub HasRoom : ℕ → Option Slots → Type 0
HasRoom n None = Unit {0}
HasRoom n (Some s) = (s.earliest + n < 2 ^ 32) × (s.latest + n < 2 ^ 32)

-- R happens so many slots later
abbrev pub After : ℕ → (ℕ → Type 0) → ℕ → Type 0
After n R k = (j : ℕ) × (k ≡ j + n) × R j
