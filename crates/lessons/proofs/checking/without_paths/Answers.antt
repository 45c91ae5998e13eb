use Rattle.std.proofs.Common.{◌∙◌, sym, ap, refl, [], string_bytes, Vec, Global, Bool}
use Rattle.plan_core.specs.PlanContents.{plan_contents}
use Rattle.lessons.specs.Lessons.{seen_in}
use Rattle.lessons.proofs.MeaningLemmas.{teaches, nothing_has}
use Rattle.lessons.proofs.checking.without_paths.Goals as goal

pub returns : goal.returns
returns c =
    let plan = plan_contents c.in_ok-plan_meant.field-0 in
    let seen = c.args.seen.now in
    let known = c.learned_of.ensures in
    teaches seen c.learned_of.result c.as_bytes.result.now [] (seen_in seen) plan
    (c.as_bytes.ensures.value ∙ ap string_bytes (sym known.brief))
    (sym (ap (λ (had : Vec Bool Global). had.items) known.had ∙ c.new.ensures.items))
    refl c.in_ok-plan_meant.ensures (nothing_has plan (seen_in seen)) known.counts known.whole
