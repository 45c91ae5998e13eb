use Rattle.std.proofs.Common.{refl}
use Rattle.capture_check.specs.Views.{recorded}
use Rattle.lessons.proofs.SeenLemmas.{sees_added, then_of_this}
use Rattle.lessons.proofs.seen.Sights.see.Goals as goal

pub returns-then-is_collision : goal.returns-then-is_collision
returns-then-is_collision c =
    let a = c.args.self.now in
    then_of_this c.see_odd.result a _ c.see_odd.new.self (recorded c.args.transaction.now)
    (sees_added a _ refl refl refl refl) c.see_odd.ensures

pub returns-in-Err : goal.returns-in-Err
returns-in-Err c =
    let a = c.args.self.now in
    then_of_this c.see_odd-in-Err.result a _ c.see_odd-in-Err.new.self (recorded c.args.transaction.now)
    (sees_added a _ refl refl refl refl) c.see_odd-in-Err.ensures
