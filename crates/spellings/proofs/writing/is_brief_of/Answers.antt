use Rattle.std.proofs.Common.{◌≡◌, ℕ, List, sym, ◌∙◌, subst}
use Rattle.plan_core.proofs.BuildingLemmas.{same-bytes_eq}
use Rattle.plan_core.specs.Contents.{Contents}
use Rattle.plan_core.specs.PlanContents.{plan_contents}
use Rattle.plan_text.specs.Grammar.{Spells}
use Rattle.plan_text.proofs.ReadLemmas.{one_plan}
use Rattle.brief_text.specs.Briefs.{Means}
use Rattle.spellings.proofs.writing.is_brief_of.Goals as goal

-- a text spells one plan
pub returns-in_ok-other-in-Ok-clause-meant : goal.returns-in_ok-other-in-Ok-clause-meant
returns-in_ok-other-in-Ok-clause-meant c = λ same.
    let meant = plan_contents c.in-Ok.meant in
    let plan = plan_contents c.args.plan.now in
    let other = c.in_ok-other-in-Ok.other.items in
    let equal = same-bytes_eq c.as_slice.result.now c.as_slice-in-Ok.result.now (sym c.eq.ensures ∙ same) in
    let texts : c.in_ok-one-in-Ok.one.items ≡ other = sym c.as_slice.ensures.value ∙ equal ∙ c.as_slice-in-Ok.ensures.value in
    let plans = one_plan other meant plan (subst (λ (t : List ℕ). Spells t meant) texts c.in_ok-one-in-Ok.ensures.read_back) c.in_ok-other-in-Ok.ensures.read_back in
    subst (λ (p : Contents). Means c.args.text.now p) plans c.in-Ok.ensures.meant
