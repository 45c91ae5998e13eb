use Rattle.pair_walk.proofs.Unique.{canonical_proves, one_proof, one_fault}
use Rattle.pair_walk.proofs.laws.one_verdict.Goals as goal

pub returns-clause-proves : goal.returns-clause-proves
returns-clause-proves c p s t h = canonical_proves p s t h

pub returns-clause-one_proof : goal.returns-clause-one_proof
returns-clause-one_proof c p q s t h i = one_proof p q s t h i

pub returns-clause-one_fault : goal.returns-clause-one_fault
returns-clause-one_fault c plan x y u v j k a b f g = one_fault plan x y u v j k a b f g
