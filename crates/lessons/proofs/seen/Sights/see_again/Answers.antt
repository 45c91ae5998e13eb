use Rattle.std.proofs.Common.{sym, refl, map, ◌∙◌, ap}
use Rattle.capture_check.specs.Views.{recorded}
use Rattle.lessons.specs.declared.seen.Sights.{Sights}
use Rattle.lessons.specs.Lessons.{path_seen}
use Rattle.lessons.proofs.SeenLemmas.{among_same, of_this, same_paths, sees_path}
use Rattle.lessons.proofs.seen.Sights.see_again.Goals as goal

pub returns-then-not-has_path : goal.returns-then-not-has_path
returns-then-not-has_path c = of_this c.see_odd.result c.args.self.now c.see_odd.new.self (recorded c.args.transaction.now) c.see_odd.ensures

pub returns : goal.returns
returns c =
    let a = c.args.self.now in
    let b : Sights = record a { sights = c.count_again.new.sights } in
    let among = c.has_path.ensures (cc) in
    let sights = ap (map path_seen) c.as_slice.ensures.value ∙ sym c.count_again.ensures in
    sees_path a b (recorded c.args.transaction.now) refl refl c.count_again.ensures refl
    (among_same _ _ _ _ sights c.as_slice-2.ensures.value among)
