use Rattle.std.proofs.Common.{sym, ◌∙◌, [], ◌∷◌, ◌≡◌, ◌++◌, codes, string_bytes}
use Rattle.std.specs.Map.{keys_of}
use Rattle.std.proofs.lemmas.Option.{get_or_from_slice_get}
use Rattle.plan_core.specs.Labels.{name_at}
use Rattle.plan_core.specs.PlanContents.{plan_contents}
use Rattle.spellings.specs.Canonical.{never_line, item_line}
use Rattle.spellings.proofs.Adding.{line_more}
use Rattle.spellings.proofs.items.nevers.Goals as goal

pub loop-k-preserved : goal.loop-k-preserved
loop-k-preserved c =
    let plan = plan_contents c.args.plan.now in
    let two = c.never-first.result in
    let first : c.as_str-first.result.now ≡ name_at plan.controllers two.0 = c.as_str-first.ensures ∙ sym (get_or_from_slice_get (keys_of plan.controllers) two.0 _ [] c.controller_name.ensures) in
    let second : c.as_str.result.now ≡ name_at plan.controllers two.1 = c.as_str.ensures ∙ sym (get_or_from_slice_get (keys_of plan.controllers) two.1 _ [] c.controller_name-in-loop-k.ensures) in
    line_more plan.nevers c.loop-k.k two c.never-first.ensures.value (never_line plan) _ _ _ c.loop-k.invariant
    (c.in_ok-never.ensures ∙ (λ i. string_bytes c.loop-k.text ++ item_line (codes "never") (first i ∷ (second i ∷ []))))
