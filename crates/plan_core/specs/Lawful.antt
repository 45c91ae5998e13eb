-- Who may start together, within the hold time of one START (UM10204, 3.1.8): a set of participants, given as a test on
-- their numbers.
use Rattle.std.specs.Prelude.{◌≡◌, ◌≢◌, ℕ, ◌<◌, Bool, true, false, ◌||◌, ◌==◌}
use Rattle.plan_core.specs.Contents.{Contents}
use Rattle.plan_core.specs.Participants.{participant_count, apart}

abbrev pub Set : Type 0
Set = ℕ → Bool

abbrev pub In : ℕ → Set → Type 0
In p s = s p ≡ true

-- Not empty, of participants of the plan, no two of one controller and no two of controllers that a `never` names.
pub record IsLawful (plan : Contents) (s : Set) : Type 0 where
  pub some : (p : ℕ) × In p s
  pub participants : (p : ℕ) → In p s → p < participant_count plan
  pub together : (x y : ℕ) → x ≢ y → In x s → In y s → apart plan x y ≡ false

-- the set of two
abbrev pub pair : ℕ → ℕ → Set
pair x y p = p == x || p == y

-- a pair of the plan: a lawful set of two, the lower number first
abbrev pub IsPair : Contents → ℕ → ℕ → Type 0
IsPair plan x y = (x < y) × IsLawful plan (pair x y)
