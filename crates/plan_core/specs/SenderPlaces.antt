-- The numbers of what participants send, and a place for each two of them. What a pair comes to depends on what its two
-- participants send, and on nothing else: so what is known of two senders can be kept at their place.
use Rattle.std.specs.Prelude.{ℕ, ◌+◌, ◌*◌, Option, Some, None, length, slice_get}
use Rattle.plan_core.specs.declared.plans.Participant.{Participant}
use Rattle.plan_core.specs.declared.plans.Participant.TheVariants.{Sending, Interrupt}
use Rattle.plan_core.specs.Contents.{Contents}
use Rattle.plan_core.specs.Participants.{participants_of}

abbrev pub sender_count : Contents → ℕ
sender_count plan = length plan.messages + length plan.interrupts

-- messages have their own numbers, and interrupts are counted after them
abbrev pub number_of : Contents → Option Participant → ℕ
number_of plan (Some (Sending controller message)) = message
number_of plan (Some (Interrupt k)) = length plan.messages + k
number_of plan None = 0

abbrev pub sender_number : Contents → ℕ → ℕ
sender_number plan p = number_of plan (slice_get (participants_of plan) p)

abbrev pub place_count : Contents → ℕ
place_count plan = sender_count plan * sender_count plan

-- the place of what x and y send
unfoldable pub place : Contents → ℕ → ℕ → ℕ
place plan x y = sender_number plan x * sender_count plan + sender_number plan y
