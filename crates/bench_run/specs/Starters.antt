-- Who starts, and what the targets answer, as texts say it.
use Rattle.std.specs.Prelude.{◌≡◌, ◌≢◌, ℕ, ◌<◌, ◌⊎◌, ◌==◌, Bool, List, [], ◌∷◌, map, ⊤}
use Rattle.std.specs.List.{slice_split}
use Rattle.plan_core.specs.Contents.{Contents}
use Rattle.plan_core.specs.Labels.{label_of}
use Rattle.plan_core.specs.Participants.{participant_count}

-- the labels of a text, which commas part; the empty text has none
abbrev pub labels_in : List ℕ → List (List ℕ)
labels_in [] = []
labels_in (b ∷ bs) = slice_split (λ c. c == 44) (b ∷ bs)

-- no participant has this label
abbrev pub IsNoLabel : Contents → List ℕ → Type 0
IsNoLabel plan label = (i : ℕ) → i < participant_count plan → label_of plan i ≢ label

-- n is the participant with this label; where there is none, it is a number that no participant has
abbrev pub IsNumberOf : Contents → List ℕ → ℕ → Type 0
IsNumberOf plan label n =
    ((n < participant_count plan) × (label_of plan n ≡ label)) ⊎ ((n ≡ participant_count plan) × IsNoLabel plan label)

-- these are the numbers of these labels, one by one
abbrev pub AreNumbersOf : Contents → List (List ℕ) → List ℕ → Type 0
AreNumbersOf plan [] [] = ⊤
AreNumbersOf plan (label ∷ labels) (n ∷ ns) = IsNumberOf plan label n × AreNumbersOf plan labels ns
AreNumbersOf plan _ _ = ⊥

-- the bits of a text of `0` and `1`
abbrev pub bits_in : List ℕ → List Bool
bits_in text = map (λ b. b == 49) text
