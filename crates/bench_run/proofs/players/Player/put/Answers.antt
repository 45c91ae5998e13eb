use Rattle.bench_run.proofs.PlayerLemmas.{puts_on}
use Rattle.bench_run.proofs.players.Player.put.Goals as goal

pub returns : goal.returns
returns g c =
    puts_on c.args.bench.now c.args.manner.now.fill c.args.self.now c.put.new.self c.offered.result c.in-Some.put c.in-Puts.is c.offered.ensures c.in-Some.ensures.some c.in-Ok.ensures.done.1 c.requires
