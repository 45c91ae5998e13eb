use Rattle.std.proofs.Common.{length}
use Rattle.plan_core.specs.PairTables.{are_apart}
use Rattle.plan_core.proofs.pairs.PairTable.new.Goals as goal

pub loop-x-init : goal.loop-x-init
loop-x-init c = c.empty-table.ensures (are_apart c.args.nevers.now c.args.participants.now) (length c.args.participants.now)
