-- Which starters a bench is opened for: those that may start together, each of them once.
use Rattle.std.specs.Prelude.{ℕ, Bool, ◌==◌, ◌||◌, not, if◌then◌else◌, nat_lt, List, [], ◌∷◌, ◌++◌, Option, Some, None}
use Rattle.std.specs.List.{list_any}
use Rattle.std.specs.Option.{option_or}
use Rattle.plan_core.specs.Contents.{Contents}
use Rattle.plan_core.specs.Participants.{participant_count, same_controller, forbidden}
use Rattle.run_errors.specs.declared.benches.OpenError.{OpenError}
use Rattle.run_errors.specs.declared.benches.OpenError.TheVariants.{NoStarter, Unknown, SameController, Never}

-- the same participant, or both are sendings of one controller
abbrev pub shares_controller : Contents → ℕ → ℕ → Bool
shares_controller plan x y = x == y || same_controller plan x y

-- why x doesn't start together with those before it
abbrev pub refusal_behind : Contents → List ℕ → ℕ → Option OpenError
refusal_behind plan before x =
    if not (nat_lt x (participant_count plan)) then Some Unknown
    else if list_any (λ y. shares_controller plan y x) before then Some SameController
    else if list_any (λ y. forbidden plan y x) before then Some Never
    else None

-- the first refusal of these, in order, after those before them
abbrev pub first_refusal : Contents → List ℕ → List ℕ → Option OpenError
first_refusal plan before [] = None
first_refusal plan before (x ∷ xs) = option_or (refusal_behind plan before x) (first_refusal plan (before ++ x ∷ []) xs)

-- why a bench is not opened for these starters, but for memory
abbrev pub starters_refusal : Contents → List ℕ → Option OpenError
starters_refusal plan [] = Some NoStarter
starters_refusal plan (x ∷ xs) = first_refusal plan [] (x ∷ xs)
