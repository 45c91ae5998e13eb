-- Families: each has some messages of a plan, and each interrupt is one by itself.
use Rattle.std.specs.Prelude.{ℕ, Bool, false, nat_lt, List, slice_index_or}
use Rattle.plan_core.specs.declared.plans.Participant.{Participant}
use Rattle.plan_core.specs.declared.plans.Participant.TheVariants.{Sending, Interrupt}
use Rattle.plan_core.specs.Contents.{Contents}
use Rattle.plan_core.specs.Participants.{participants_of}
use Rattle.causes.specs.declared.families.Family.{Family}
use Rattle.causes.specs.declared.families.Family.TheVariants as family

-- the family of who takes part, whichever controller it is, where these are the families of the messages
abbrev pub family_of : List Family → Participant → Family
family_of families (Sending controller m) = slice_index_or families m (family.Interrupt 0)
family_of families (Interrupt k) = family.Interrupt k

-- the family of participant x
abbrev pub family_at : Contents → List Family → ℕ → Family
family_at plan families x = family_of families (slice_index_or (participants_of plan) x (Interrupt 0))

-- there is more than one in it
abbrev pub is_several : Family → Bool
is_several (family.Messages first count) = nat_lt 1 count
is_several (family.Interrupt k) = false
