use Rattle.std.proofs.Common.{◌∙◌, ap, subst, List}
use Rattle.lessons.specs.declared.paths.Step.{Step}
use Rattle.lessons.specs.Lessons.{path_seen}
use Rattle.lessons.specs.Plans.{HasMarks}
use Rattle.lessons.proofs.SeenLemmas.{among_at}
use Rattle.lessons.proofs.seen.has_path.Goals as goal

pub returns-in-Some : goal.returns-in-Some
returns-in-Some c = λ e.
    let found = c.in-Some.ensures.lookup in
    let path = c.as_slice.ensures.value ∙ ap path_seen found.1 in
    among_at c.args.sights.now c.args.number c.in-Some.sight.now c.args.marks.now found.3.0
    (subst (λ (steps : List Step). HasMarks steps c.args.marks.now) path (c.has_marks.ensures e))
