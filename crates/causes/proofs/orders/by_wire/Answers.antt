use Rattle.verdicts.specs.Faults.{fault_list}
use Rattle.causes.specs.Causes.{wires_of}
use Rattle.causes.proofs.SortLemmas.{order_of_sort}
use Rattle.causes.proofs.orders.by_wire.Goals as goal

pub returns : goal.returns
returns c =
    order_of_sort (wires_of (fault_list c.args.faults.now)) c.in_ok-order.order.items _ c.in_ok-order.ensures c.in_ok-sort.ensures.permutation c.in_ok-sort.ensures.sorted
