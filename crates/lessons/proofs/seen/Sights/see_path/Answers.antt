use Rattle.capture_check.specs.Views.{recorded}
use Rattle.lessons.proofs.SeenLemmas.{same_paths, sees_added, then_sees}
use Rattle.lessons.proofs.seen.Sights.see_path.Goals as goal

pub returns-else-branch : goal.returns-else-branch
returns-else-branch c =
    let a = c.args.self.now in
    let b = c.is_in_brief.new.self in
    let is = c.in_ok-is_in_brief-in-None.ensures in
    then_sees c.see_new.result a b c.see_new.new.self (recorded c.args.transaction.now)
    (sees_added a b is.before is.view is.sights is.odd) c.see_new.ensures
