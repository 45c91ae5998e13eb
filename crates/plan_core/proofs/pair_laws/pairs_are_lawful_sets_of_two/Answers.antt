use Rattle.plan_core.proofs.PairLaws.{from_pairs, to_pairs, IsPair-from_parts, parts_of_IsPair, pairs_rise}
use Rattle.plan_core.proofs.pair_laws.pairs_are_lawful_sets_of_two.Goals as goal

pub returns-clause-lawful : goal.returns-clause-lawful
returns-clause-lawful c plan x y =
    ((λ h. let parts = from_pairs plan x y h in IsPair-from_parts plan x y parts.0 parts.1 parts.2), (λ h. let parts = parts_of_IsPair plan x y h in to_pairs plan x y parts.0 parts.1 parts.2))

pub returns-clause-ordered : goal.returns-clause-ordered
returns-clause-ordered c plan = pairs_rise plan
