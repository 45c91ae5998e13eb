use Rattle.order.proofs.WayLemmas.{first_is}
use Rattle.verdicts.specs.Faults.{fault_list}
use Rattle.order.proofs.orders.is_next.Goals as goal

pub returns-then-met-len : goal.returns-then-met-len
returns-then-met-len c =
    first_is (fault_list c.args.faults.now) c.args.met c.args.pair (c.get.result.0, c.get.result.1.now) c.get.ensures
