-- What an edit of a plan does to its unsafe pairs. Messages and interrupts of the two plans are known to each other by their
-- names. Whether a pair is safe depends on what its two send, and on nothing else: so their controllers do not count.
use Rattle.std.specs.Prelude.{◌≡◌, ◌⊎◌, ◌↔◌, ℕ, Bool, List, length, Option, Some, slice_get, IsTrue}
use Rattle.certificate.specs.declared.values.Fault.{Fault}
use Rattle.plan_core.specs.declared.plans.Participant.{Participant}
use Rattle.plan_core.specs.declared.plans.Participant.TheVariants.{Sending, Interrupt}
use Rattle.plan_core.specs.Contents.{Contents}
use Rattle.plan_core.specs.Faults.{IsFaulty}
use Rattle.plan_core.specs.Labels.{name_at}
use Rattle.plan_core.specs.Lawful.{IsPair, pair}
use Rattle.plan_core.specs.Pairs.{pairs_of}
use Rattle.plan_core.specs.Participants.{participants_of}

-- two messages of one name, or two interrupts: a message and an interrupt are never the same, however they are spelled
abbrev pub HaveOneName : Contents → Contents → Option Participant → Option Participant → Type 0
HaveOneName plan edited (Some (Sending c m)) (Some (Sending d n)) = name_at plan.messages m ≡ name_at edited.messages n
HaveOneName plan edited (Some (Interrupt k)) (Some (Interrupt l)) = name_at plan.interrupts k ≡ name_at edited.interrupts l
HaveOneName plan edited _ _ = ⊥

-- what x of the plan and v of the edited plan send has one name
abbrev pub SendSame : Contents → Contents → ℕ → ℕ → Type 0
SendSame plan edited x v =
    HaveOneName plan edited (slice_get (participants_of plan) x) (slice_get (participants_of edited) v)

-- a pair of the plan and one of the edited plan are the same: what they send has the same names, in this order or the other
abbrev pub AreSame : Contents → Contents → ℕ × ℕ → ℕ × ℕ → Type 0
AreSame plan edited p q =
    (SendSame plan edited p.0 q.0 × SendSame plan edited p.1 q.1) ⊎
    (SendSame plan edited p.0 q.1 × SendSame plan edited p.1 q.0)

-- these two are a pair, and it has a fault
abbrev pub IsUnsafe : Contents → ℕ × ℕ → Type 0
IsUnsafe plan p = IsPair plan p.0 p.1 × IsFaulty plan (pair p.0 p.1)

-- the edit leaves this pair of the plan unsafe: an unsafe pair of the edited plan is the same
abbrev pub Left : Contents → Contents → ℕ × ℕ → Type 0
Left plan edited p = (q : ℕ × ℕ) × IsUnsafe edited q × AreSame plan edited p q

-- the edit makes a pair unsafe: an unsafe pair of the edited plan is the same as no unsafe pair of the plan
abbrev pub MakesUnsafe : Contents → Contents → Type 0
MakesUnsafe plan edited =
    (q : ℕ × ℕ) × IsUnsafe edited q × ((p : ℕ × ℕ) → IsUnsafe plan p → AreSame plan edited p q → ⊥)

-- for each fault of the plan, in order, whether the edit leaves its pair unsafe
pub record AreLeft (plan : Contents) (faults : List (ℕ × Fault)) (edited : Contents) (left : List Bool) : Type 0 where
  pub whole : length left ≡ length faults
  pub each : (k p : ℕ) (fault : Fault) (two : ℕ × ℕ) (is_left : Bool) → slice_get faults k ≡ Some (p, fault) → slice_get (pairs_of plan) p ≡ Some two → slice_get left k ≡ Some is_left → IsTrue is_left ↔ Left plan edited two
