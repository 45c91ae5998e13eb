use Rattle.pair_walk.proofs.Interrupts.{interrupts_meet}
use Rattle.pair_walk.proofs.headers.two_interrupts.Goals as goal

pub returns : goal.returns
returns g c =
    interrupts_meet g.M.Makes.shows c.args.a.now c.args.b.now c.two_read_headers.result c.two_read_headers.ensures
