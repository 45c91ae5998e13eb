use Rattle.bench_run.proofs.PlayerLemmas.{looks_on}
use Rattle.bench_run.proofs.players.Player.look.Goals as goal

pub returns-then-ne : goal.returns-then-ne
returns-then-ne g c =
    looks_on c.args.bench.now c.args.manner.now.fill c.args.self.now c.see.result c.see.new.self c.stage_after-self.result c.saturating_add-self.result c.see.ensures.seen c.see.ensures.bench c.in-Looks.is c.stage_after-self.ensures c.requires
