use Rattle.vcd_read.specs.Views.{asked}
use Rattle.lessons.proofs.LearningLemmas.{learns}
use Rattle.lessons.proofs.learning.learn_dump.Goals as goal

pub returns-in-Ok-brief_of : goal.returns-in-Ok-brief_of
returns-in-Ok-brief_of g c =
    let all = c.in-Ok.ensures.all in
    (all.dump, all.read, learns c.args.least (asked c.args.scl) (asked c.args.sda) c.args.seen _ all.dump _ all.decodes c.in-Ok-brief_of.ensures)
