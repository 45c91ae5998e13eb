use Rattle.std.proofs.Common.{ap}
use Rattle.message_tree.specs.Trees.{frame_tree, tail_tree}
use Rattle.pair_walk.proofs.Interrupts.{read_meets_interrupt}
use Rattle.pair_walk.proofs.headers.message_and_interrupt.Goals as goal

pub returns-in-Read : goal.returns-in-Read
returns-in-Read g c =
    read_meets_interrupt g.M.Makes.shows (frame_tree c.args.f.now) c.in-Read.a c.args.b.now c.in-Read.count (tail_tree c.in-Read.after) (tail_tree c.in-Read.refused) (ap frame_tree c.in-Read.is) c.two_read_headers.result c.two_read_headers.ensures
