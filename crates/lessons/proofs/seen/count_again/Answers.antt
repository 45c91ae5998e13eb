use Rattle.std.proofs.Common.{ap}
use Rattle.lessons.specs.Lessons.{path_seen}
use Rattle.lessons.proofs.SeenLemmas.{paths_set}
use Rattle.lessons.proofs.seen.count_again.Goals as goal

pub returns-in-Some : goal.returns-in-Some
returns-in-Some c =
    let sight = c.in-Some.sight.now in
    paths_set c.args.sights.now.items c.args.number _ sight (ap path_seen c.in-Some.ensures.item.1)
