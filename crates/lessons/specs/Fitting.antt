-- Marks followed through the steps of a path. Only private contracts and proofs use this.
use Rattle.std.specs.Prelude.{ℕ, suc, zero, Bool, true, false, List, [], ◌∷◌, Option, Some, None, if◌then◌else◌}
use Rattle.capture_check.specs.Along.{after_bits}
use Rattle.capture_check.specs.declared.listening.Mark.{Mark}
use Rattle.capture_check.specs.declared.listening.Mark.TheVariants.{Level, Again, Stop}
use Rattle.lessons.specs.declared.paths.Sent.{Sent}
use Rattle.lessons.specs.declared.paths.Sent.TheVariants.{Write, Register, Data, Read}
use Rattle.lessons.specs.declared.paths.Step.{Step}
use Rattle.lessons.specs.Plans.{bytes_before_last, sent_bits}

-- the marks behind some, and what follows them there
abbrev pub then_after : Option (List Mark) → (List Mark → Option (List Mark)) → Option (List Mark)
then_after (Some left) next = next left
then_after None next = None

-- behind this level
abbrev pub after_level : Bool → List Mark → Option (List Mark)
after_level true (Level true ∷ marks) = Some marks
after_level false (Level false ∷ marks) = Some marks
after_level _ _ = None

-- behind so many levels
abbrev pub after_levels : ℕ → List Mark → Option (List Mark)
after_levels zero marks = Some marks
after_levels (suc n) (Level level ∷ marks) = after_levels n marks
after_levels (suc n) _ = None

-- behind a byte that is read, and its acknowledge
abbrev pub after_read_byte : Bool → List Mark → Option (List Mark)
after_read_byte acknowledge marks = then_after (after_levels 8 marks) (after_level acknowledge)

-- behind so many that are acknowledged
abbrev pub after_read_bytes : ℕ → List Mark → Option (List Mark)
after_read_bytes zero marks = Some marks
after_read_bytes (suc n) marks = then_after (after_read_byte false marks) (after_read_bytes n)

-- behind what follows an acknowledge
abbrev pub after_acked : Sent → List Mark → Option (List Mark)
after_acked (Read address count) marks =
    then_after (after_read_bytes (bytes_before_last count) marks) (after_read_byte true)
after_acked _ marks = Some marks

abbrev pub after_answer : Bool → Sent → List Mark → Option (List Mark)
after_answer true sent marks = after_level true marks
after_answer false sent marks = then_after (after_level false marks) (after_acked sent)

abbrev pub after_step : Step → List Mark → Option (List Mark)
after_step step marks = then_after (after_bits (sent_bits step.sent) marks) (after_answer step.refused step.sent)

-- behind the repeated START before a header
abbrev pub after_again : List Mark → Option (List Mark)
after_again (Again ∷ marks) = Some marks
after_again _ = None

abbrev pub after_lead : Sent → List Mark → Option (List Mark)
after_lead (Write address) marks = after_again marks
after_lead (Read address count) marks = after_again marks
after_lead _ marks = Some marks

abbrev pub is_stop : List Mark → Bool
is_stop (Stop ∷ []) = true
is_stop _ = false

-- what is left has the further steps, and the STOP
abbrev pub steps_fit : List Step → List Mark → Bool
steps_fit [] marks = is_stop marks
steps_fit (step ∷ steps) marks = elim (then_after (after_lead step.sent marks) (after_step step)) [
  | None ↦ false
  | Some left ↦ steps_fit steps left
]

abbrev pub path_fits : List Step → List Mark → Bool
path_fits [] marks = is_stop marks
path_fits (step ∷ steps) marks = elim (after_step step marks) [
  | None ↦ false
  | Some left ↦ steps_fit steps left
]
