use Rattle.std.proofs.Common.{◌∙◌, sym, ap, string_bytes, Vec, Global, Bool}
use Rattle.plan_core.specs.PlanContents.{plan_contents}
use Rattle.lessons.proofs.MeaningLemmas.{teaches}
use Rattle.lessons.proofs.checking.checked.Goals as goal

pub returns-then-times_of-learned : goal.returns-then-times_of-learned
returns-then-times_of-learned c =
    let seen = c.args.seen.now in
    let known = c.learned_of-learned.ensures in
    teaches seen c.learned_of-learned.result c.as_bytes.result.now c.in_ok-had.had.items c.as_slice.result.now
    (plan_contents c.in_ok-plan.plan)
    (c.as_bytes.ensures.value ∙ ap string_bytes (sym known.brief))
    (sym (ap (λ (had : Vec Bool Global). had.items) known.had))
    c.as_slice.ensures.value c.in_ok-plan.ensures c.in_ok-had.ensures known.counts known.whole
