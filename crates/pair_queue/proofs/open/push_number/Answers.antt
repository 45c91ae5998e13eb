use Rattle.std.proofs.Common.{ap}
use Rattle.pair_queue.proofs.StepLemmas.{pushes_number}
use Rattle.pair_queue.proofs.open.push_number.Goals as goal

pub push_as-requires-clause-pushes : goal.push_as-requires-clause-pushes
push_as-requires-clause-pushes c =
    let known = c.requires.filled.known in
    pushes_number _ _ _ (ap (λ v. v.alone) known) (ap (λ v. v.live) known) (ap (λ v. v.parts) known) (ap (λ v. v.made) known)
