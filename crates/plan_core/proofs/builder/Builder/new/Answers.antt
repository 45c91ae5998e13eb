use Rattle.std.proofs.Common.{sym, ◌∙◌, ap, subst}
use Rattle.plan_core.specs.Limits.{IsWithinLimits}
use Rattle.plan_core.specs.Contents.{empty}
use Rattle.plan_core.specs.PairTables.{IsPairTable}
use Rattle.plan_core.specs.Participants.{participants_of, apart}
use Rattle.plan_core.specs.BuilderContents.{builder_contents}
use Rattle.plan_core.specs.PlanContents.{plan_contents}
use Rattle.plan_core.proofs.ContentsLemmas.{contents_of-empty, empty_within}
use Rattle.plan_core.proofs.builder.Builder.new.Goals as goal

pub invariant_of-result : goal.invariant_of-result
invariant_of-result c =
    let is_empty = contents_of-empty _ _ _ _ c.new.ensures.empty c.new-2.ensures.empty c.new-3.ensures.empty c.new-4.ensures.items in
    record {
      limits = subst IsWithinLimits (sym is_empty) empty_within;
      numbered = c.new-5.ensures.items ∙ ap participants_of (sym is_empty);
      paired = subst (λ plan. IsPairTable plan c.empty.result) (sym is_empty) (c.empty.ensures (apart empty) 0);
    }

pub returns : goal.returns
unfolding builder_contents plan_contents
returns c = contents_of-empty _ _ _ _ c.new.ensures.empty c.new-2.ensures.empty c.new-3.ensures.empty c.new-4.ensures.items
