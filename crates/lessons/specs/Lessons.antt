-- What a brief that was learned says: what it means, which of the paths that were seen its plan has, and how many transactions
-- are told to be in no message.
use Rattle.std.specs.Prelude.{◌≡◌, ℕ, ◌+◌, ◌-◌, ◌^◌, min, Bool, true, false, List, [], ◌∷◌, ◌++◌, Option, Some, None, All, map, sum_by, slice_get, string_bytes, Vec}
use Rattle.std.specs.Borrow.{Bor}
use Rattle.std.specs.declared.alloc.Global.{Global}
use Rattle.brief_text.specs.Briefs.{Means, AllMean}
use Rattle.plan_core.specs.Contents.{Contents}
use Rattle.run_parts.specs.declared.runs.Status.TheVariants.{Good}
use Rattle.lessons.specs.declared.before.BriefBefore.{BriefBefore}
use Rattle.lessons.specs.declared.checking.Learned.{Learned}
use Rattle.lessons.specs.declared.paths.Step.{Step}
use Rattle.lessons.specs.declared.seen.Odd.{Odd}
use Rattle.lessons.specs.declared.seen.Sight.{Sight}
use Rattle.lessons.specs.declared.seen.Sights.{Sights}
use Rattle.lessons.specs.Plans.{HasPath}

-- the briefs that are given first, if there are some
abbrev pub bytes_of : List (Vec ℕ Global) → List (List ℕ)
bytes_of texts = map (λ (text : Vec ℕ Global). text.items) texts

abbrev pub texts_before : Option (Bor BriefBefore) → Option (List (List ℕ))
texts_before (Some before) = Some (bytes_of before.now.texts.now)
texts_before None = None

-- a text means the plan by itself, or together with those before it
abbrev pub MeansAfter : Option (List (List ℕ)) → List ℕ → Contents → Type 0
MeansAfter None text plan = Means text plan
MeansAfter (Some texts) text plan = AllMean (texts ++ text ∷ []) plan

-- those of a list that are marked, and the others
abbrev pub marked : {A : Type 0} → List Bool → List A → List A
marked (true ∷ marks) (x ∷ xs) = x ∷ marked marks xs
marked (false ∷ marks) (x ∷ xs) = marked marks xs
marked _ _ = []

abbrev pub unmarked : {A : Type 0} → List Bool → List A → List A
unmarked (true ∷ marks) (x ∷ xs) = unmarked marks xs
unmarked (false ∷ marks) (x ∷ xs) = x ∷ unmarked marks xs
unmarked [] xs = xs
unmarked marks [] = []

-- this number is marked
abbrev pub is_marked : List Bool → ℕ → Bool
is_marked marks number = elim (slice_get marks number) [ None ↦ false | Some mark ↦ mark ]

-- the path of a sight, and how often it was seen
abbrev pub path_seen : Sight → List Step
path_seen sight = sight.path.items

abbrev pub times_seen : Sight → ℕ
times_seen sight = sight.times

-- what was seen, each path once, in the order in which they first came
abbrev pub seen_in : Sights → List Sight
seen_in seen = seen.sights.items

abbrev pub paths_in : Sights → List (List Step)
paths_in seen = map path_seen (seen_in seen)

-- what is no path of a message, by its reasons
abbrev pub odd_in : Sights → List Odd
odd_in seen = seen.odd.items

abbrev pub times_odd : Odd → ℕ
times_odd odd = odd.times

-- a count of 64 bits that stays at its greatest
abbrev pub capped : ℕ → ℕ
capped n = min n (2 ^ 64 - 1)

-- how many transactions are no path, or have one of these paths
abbrev pub left_over : Sights → List Sight → ℕ
left_over seen others = sum_by times_odd (odd_in seen) + sum_by times_seen others

-- The plan has each path that it is said to have. All other transactions are counted; where there are none, all is in it.
pub record Teaches (seen : Sights) (learned : Learned) : Type 0 where
  pub plan : Contents
  pub means : MeansAfter (texts_before seen.before) (string_bytes learned.brief) plan
  pub has : All (HasPath plan) (map path_seen (marked learned.had.items (seen_in seen)))
  pub counts : learned.in_no_message ≡ capped (left_over seen (unmarked learned.had.items (seen_in seen)))
  pub whole : learned.status ≡ Good → (unmarked learned.had.items (seen_in seen) ≡ []) × (odd_in seen ≡ [])
