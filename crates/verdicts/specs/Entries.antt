-- A list of unsafe pairs, by the places where their faults stand.
-- Only private contracts and proofs use this.
use Rattle.std.specs.Prelude.{ℕ, Bool, true, false, ◌&&◌, Option, Some, List, [], ◌∷◌, ◌++◌, slice_get}
use Rattle.certificate.specs.declared.values.Fault.{Fault}
use Rattle.verdicts.specs.declared.known.Known.{Known}
use Rattle.verdicts.specs.declared.known.Known.TheVariants.{Unsafe}
use Rattle.verdicts.specs.declared.listed.Listed.{Listed}

abbrev pub is_unsafe : Option Known → Bool
is_unsafe (Some (Unsafe fault)) = true
is_unsafe _ = false

-- a fault stands at each of these places
abbrev pub all_unsafe : List Known → List Listed → Bool
all_unsafe known [] = true
all_unsafe known (l ∷ listed) = is_unsafe (slice_get known l.place) && all_unsafe known listed

abbrev pub entry : ℕ → Option Known → List (ℕ × Fault)
entry pair (Some (Unsafe fault)) = (pair, fault) ∷ []
entry pair _ = []

-- each listed pair with the fault that stands at its place
abbrev pub entries : List Known → List Listed → List (ℕ × Fault)
entries known [] = []
entries known (l ∷ listed) = entry l.pair (slice_get known l.place) ++ entries known listed

abbrev pub listing_of : Option Known → ℕ → ℕ → List Listed
listing_of (Some (Unsafe fault)) pair place = record { pair = pair; place = place } ∷ []
listing_of _ pair place = []

-- the pair is listed if a fault stands at its place
abbrev pub listing : List Known → ℕ → ℕ → List Listed
listing known pair place = listing_of (slice_get known place) pair place
