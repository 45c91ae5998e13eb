-- How a participant is written.
use Rattle.std.specs.Prelude.{ℕ, List, [], ◌++◌, Option, Some, None, slice_get, codes}
use Rattle.std.specs.List.{slice_index_or}
use Rattle.std.specs.Map.{keys_of}
use Rattle.plan_core.specs.declared.plans.Participant.{Participant}
use Rattle.plan_core.specs.declared.plans.Participant.TheVariants.{Sending, Interrupt}
use Rattle.plan_core.specs.Contents.{Contents}
use Rattle.plan_core.specs.Participants.{participants_of}

-- the name of the entry with this number
abbrev pub name_at : {X : Type 0} → List (List ℕ × X) → ℕ → List ℕ
name_at entries k = slice_index_or (keys_of entries) k []

abbrev pub participant_label : Contents → Option Participant → List ℕ
participant_label plan (Some (Sending controller message)) =
    name_at plan.controllers controller ++ (codes "/" ++ name_at plan.messages message)
participant_label plan (Some (Interrupt k)) = codes "!" ++ name_at plan.interrupts k
participant_label plan None = []

-- `controller/message` for a sending, `!interrupt` for an interrupt
unfoldable pub label_of : Contents → ℕ → List ℕ
label_of plan x = participant_label plan (slice_get (participants_of plan) x)
