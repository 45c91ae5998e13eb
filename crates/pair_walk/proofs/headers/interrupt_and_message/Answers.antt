use Rattle.std.proofs.Common.{ap}
use Rattle.message_tree.specs.Trees.{frame_tree, tail_tree}
use Rattle.pair_walk.proofs.Interrupts.{interrupt_meets_read}
use Rattle.pair_walk.proofs.headers.interrupt_and_message.Goals as goal

pub returns-in-Read : goal.returns-in-Read
returns-in-Read g c =
    interrupt_meets_read g.M.Makes.shows (frame_tree c.args.g.now) c.args.a.now c.in-Read.b c.in-Read.count (tail_tree c.in-Read.after) (tail_tree c.in-Read.refused) (ap frame_tree c.in-Read.is) c.two_read_headers.result c.two_read_headers.ensures
