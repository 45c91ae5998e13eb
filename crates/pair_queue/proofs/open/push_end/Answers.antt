use Rattle.std.proofs.Common.{ap}
use Rattle.pair_queue.proofs.StepLemmas.{pushes_end}
use Rattle.pair_queue.proofs.open.push_end.Goals as goal

pub push_as-requires-clause-pushes : goal.push_as-requires-clause-pushes
push_as-requires-clause-pushes c =
    let known = c.requires.filled.known in
    pushes_end _ _ (ap (λ v. v.alone) known) (ap (λ v. v.live) known)
