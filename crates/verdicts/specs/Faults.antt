-- The pairs of a plan that are not safe, with their first faults.
use Rattle.std.specs.Prelude.{◌≡◌, ℕ, List, [], ◌∷◌}
use Rattle.certificate.specs.declared.values.Fault.{Fault}
use Rattle.pair_walk.specs.declared.walk_pair.Outcome.{Outcome}
use Rattle.pair_walk.specs.declared.walk_pair.Outcome.TheVariants.{Safe, Unsafe}
use Rattle.pair_walk.specs.declared.walk_pair.Verdict.{Verdict}
use Rattle.plan_core.specs.Contents.{Contents}
use Rattle.verdicts.specs.declared.listed.Faults as value
use Rattle.verdicts.specs.Entries.{entries}
use Rattle.verdicts.specs.Verdicts.{AreVerdicts}

abbrev pub outcome_fault : ℕ → Outcome → List (ℕ × Fault) → List (ℕ × Fault)
outcome_fault pair (Safe proof) later = later
outcome_fault pair (Unsafe fault) later = (pair, fault) ∷ later

-- the faults among these verdicts, each with the number of its pair
abbrev pub faults_of : List Verdict → List (ℕ × Fault)
faults_of [] = []
faults_of (v ∷ verdicts) = outcome_fault v.pair v.outcome (faults_of verdicts)

-- the faults among the verdicts of the plan's pairs, and so one for each pair that is not safe
pub record AreFaults (plan : Contents) (faults : List (ℕ × Fault)) : Type 0 where
  pub verdicts : List Verdict
  pub right : AreVerdicts plan verdicts
  pub these : faults ≡ faults_of verdicts

abbrev pub fault_list : value.Faults → List (ℕ × Fault)
fault_list faults = entries faults.known.items faults.listed.items
