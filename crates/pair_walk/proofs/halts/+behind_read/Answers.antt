use Rattle.std.proofs.Common.{◌-◌, false, [], ◌∷◌, ◌++◌, replicate, arith}
use Rattle.message_tree.specs.declared.items.Item.TheVariants.{Sent, Heard}
use Rattle.pair_walk.specs.Wires.{read_wire}
use Rattle.pair_walk.proofs.Halting.{behind_both, read_wire_step}
use Rattle.pair_walk.proofs.halts.+behind_read.Goals as goal

pub returns-else-more-eq0 : goal.returns-else-more-eq0
returns-else-more-eq0 t c =
    rw (read_wire_step c.args.more (omega arith)) (behind_both (replicate 8 (Heard false) ++ Sent false ∷ []) (read_wire (c.args.more - 1)) c.args.halt c.behind_read.result c.behind-else-more-eq0.result c.behind_read.ensures c.behind-else-more-eq0.ensures)
