use Rattle.std.proofs.Common.{ap, take, List}
use Rattle.message_tree.specs.declared.items.Item.{Item}
use Rattle.pair_walk.proofs.Interrupts.{meets_behind}
use Rattle.pair_walk.proofs.headers.two_read_headers.Goals as goal

pub returns-in-None : goal.returns-in-None
returns-in-None g c =
    meets_behind g.M.Makes.shows c.args.a.now c.args.b.now c.args.first c.args.second (take 8 c.header_items.result) c.clash.result c.behind.result c.in-None.ensures (ap (λ (xs : List Item). take 8 xs) c.header_items.ensures) c.clash.ensures c.behind.ensures
