use Rattle.std.proofs.Common.{refl, subst, List}
use Rattle.capture_check.specs.Views.{recorded}
use Rattle.capture_check.specs.declared.listening.Mark.{Mark}
use Rattle.lessons.specs.declared.paths.Step.{Step}
use Rattle.lessons.specs.declared.seen.Sights.{Sights}
use Rattle.lessons.specs.Plans.{HasMarks}
use Rattle.lessons.proofs.SeenLemmas.{of_this, sees_new}
use Rattle.lessons.proofs.seen.Sights.see_new.Goals as goal

pub returns-then-not-has_marks : goal.returns-then-not-has_marks
returns-then-not-has_marks c = of_this c.see_odd.result c.args.self.now c.see_odd.new.self (recorded c.args.transaction.now) c.see_odd.ensures

pub returns : goal.returns
returns c =
    let a = c.args.self.now in
    let b : Sights = record a { numbers = c.insert.new.self; sights = c.push.new.self } in
    let t = c.args.transaction.now in
    let has = subst (λ (marks : List Mark). HasMarks c.as_slice.result.now marks) c.as_slice-2.ensures.value (c.has_marks.ensures (cc)) in
    sees_new a b (recorded t) _ refl refl c.in_ok-push.ensures.items refl c.requires
    (subst (λ (steps : List Step). HasMarks steps t.marks.items) c.as_slice.ensures.value has)
