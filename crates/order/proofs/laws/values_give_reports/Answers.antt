use Rattle.order.proofs.OrderLemmas.{due_order}
use Rattle.order.proofs.laws.values_give_reports.Goals as goal

pub returns : goal.returns
returns c = due_order
