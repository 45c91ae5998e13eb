use Rattle.std.proofs.Common.{List, ℕ, sym, subst, ◌∙◌}
use Rattle.plan_core.specs.PlanContents.{plan_contents}
use Rattle.plan_core.proofs.PlanLemmas.{limits_of}
use Rattle.brief_text.specs.Briefs.{Means}
use Rattle.spellings.proofs.SpelledBriefs.{written_means}
use Rattle.spellings.proofs.writing.brief_of.Goals as goal

pub returns-clause-meant : goal.returns-clause-meant
returns-clause-meant c =
    let plan = plan_contents c.args.plan.now in
    subst (λ (text : List ℕ). Means text plan) (sym c.in_ok-written.ensures) (written_means plan (limits_of c.args.plan.now) (sym c.brief_word.ensures.some ∙ sym c.is_some.ensures ∙ c.if-is_some.false))
