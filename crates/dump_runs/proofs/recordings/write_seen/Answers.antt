use Rattle.lessons.specs.Lessons.{Teaches}
use Rattle.dump_runs.proofs.LearnedLemmas.{wrote_learned}
use Rattle.dump_runs.proofs.recordings.write_seen.Goals as goal

pub returns : goal.returns
returns g c =
    wrote_learned g.O.Output.writer c.args.out.now c.write_brief.new.out (Teaches c.args.seen) c.in_ok-learned.learned c.write_brief.result c.in_ok-learned.ensures c.write_brief.ensures.status c.write_brief.ensures.written
