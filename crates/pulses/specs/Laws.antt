-- What the laws say of captures without short pulses: samples in the order of time, and runs that last, sample by sample.
use Rattle.std.specs.Prelude.{◌≡◌, ◌≢◌, ℕ, ◌+◌, ◌≤◌, List, ◌∷◌, ◌++◌}
use Rattle.vcd_read.specs.declared.samples.Sample.{Sample}
use Rattle.pulses.specs.Pulses.{Line}

-- no sample is earlier than the one before it
abbrev pub AreInOrder : List Sample → Type 0
AreInOrder samples = (front rest : List Sample) (a b : Sample) → samples ≡ front ++ (a ∷ (b ∷ rest)) → a.time ≤ b.time

-- each sample differs from the one before it in the level of a line
abbrev pub AreChanges : List Sample → Type 0
AreChanges samples =
    (front rest : List Sample) (a b : Sample) → samples ≡ front ++ (a ∷ (b ∷ rest)) → a.scl ≡ b.scl → a.sda ≡ b.sda → ⊥

-- the run of a line that begins in this sample lasts so long: no later sample has another level before that time is over
abbrev pub Lasts : ℕ → Line → Sample → List Sample → Type 0
Lasts least line begin later =
    (between rest : List Sample) (s : Sample) → later ≡ between ++ (s ∷ rest) → line s ≢ line begin → begin.time + least ≤ s.time

-- Where the line changes from one sample to the next, a run begins that lasts so long. So all its runs do but the first,
-- which no change begins, and the last, which none ends.
abbrev pub HasNoShortRun : ℕ → Line → List Sample → Type 0
HasNoShortRun least line samples =
    (front rest : List Sample) (a b : Sample) → samples ≡ front ++ (a ∷ (b ∷ rest)) → line a ≢ line b → Lasts least line b rest
