use Rattle.plan_core.specs.Lawful.{pair}
use Rattle.plan_core.proofs.Model.{pair_of_lawful, fault_of_pair, may_clash, still_in, safe_by_pairs}
use Rattle.plan_core.proofs.laws.pairs_suffice.Goals as goal

pub returns-clause-fault : goal.returns-clause-fault
returns-clause-fault c plan s u x y j k l f =
    (pair_of_lawful plan s x y l f.in_order (still_in f.reached x f.first) (still_in f.reached y f.second), fault_of_pair plan x y u j k f.in_order (may_clash plan s x y u j k f))

pub returns-clause-safe : goal.returns-clause-safe
returns-clause-safe c plan = (λ safe x y p. safe (pair x y) p.1, safe_by_pairs plan)

pub returns-clause-clash : goal.returns-clause-clash
returns-clause-clash c plan x y u j k lt = (may_clash plan (pair x y) x y u j k, fault_of_pair plan x y u j k lt)
