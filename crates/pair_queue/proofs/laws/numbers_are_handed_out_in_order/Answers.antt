use Rattle.pair_queue.proofs.Logs.{handed_out}
use Rattle.pair_queue.proofs.laws.numbers_are_handed_out_in_order.Goals as goal

pub returns : goal.returns
returns c log rest n h = handed_out log rest n h.legal h.pushes
