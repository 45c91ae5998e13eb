-- What explains the verdict on a plan.
use Rattle.std.specs.Prelude.{ℕ, List}
use Rattle.certificate.specs.declared.values.Fault.{Fault}
use Rattle.offers.specs.Offered.{AreOffers}
use Rattle.offers.specs.declared.reasons.Reasons.{Reasons}
use Rattle.offers.specs.declared.reasons.Reasons.TheVariants.{Safe, Unsafe}
use Rattle.plan_core.specs.Contents.{Contents}
use Rattle.remedies.specs.Numbers.{group_numbers}

-- of an unsafe one the groups, and what is offered for these
abbrev pub AreReasons : List (List ℕ) → Contents → List (ℕ × Fault) → Reasons → Type 0
AreReasons texts plan faults (Safe safety) = Unit {0}
AreReasons texts plan faults (Unsafe groups offers) = AreOffers texts plan faults (group_numbers groups) offers
