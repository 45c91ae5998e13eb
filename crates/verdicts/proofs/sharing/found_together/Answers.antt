use Rattle.std.proofs.Common.{ℕ, Ok, All, IfOk, subst, ◌∙◌}
use Rattle.verdicts.specs.Parts.{IsPart, IsFoundOf}
use Rattle.verdicts.proofs.Gathered.{all_jobs, all_numbers, all_given}
use Rattle.verdicts.proofs.sharing.found_together.Given as given
use Rattle.verdicts.proofs.sharing.found_together.Goals as goal

pub work_together-parts-requires-clause-jobs : goal.work_together-parts-requires-clause-jobs
work_together-parts-requires-clause-jobs g c κs within =
    all_jobs c.in_ok-owner.owner.queue _ c.in_ok-jobs.jobs.items (c.in_ok-jobs.ensures ∙ c.in_ok-owner.ensures.thieves)

pub gathered-requires-clause-parts : goal.gathered-requires-clause-parts
gathered-requires-clause-parts g c =
    let gives : ℕ → g.row.X.Denot → Type 0 = λ i x. given.F-post g c.args.f.now i (Ok x) in
    let q = c.in_ok-owner.owner.queue in
    let parts : All (IsPart gives q) c.in_ok-parts.field-0.items =
    subst (λ r. IfOk r (λ v. All (IsPart gives q) v.items)) c.in_ok-parts.was c.work_together-parts.ensures.parts in
    all_numbers gives q _ c.work_together-parts.ensures.queue c.in_ok-parts.field-0.items parts

pub returns : goal.returns
returns g c =
    let gives : ℕ → g.row.X.Denot → Type 0 = λ i x. given.F-post g c.args.f.now i (Ok x) in
    let q = c.in_ok-owner.owner.queue in
    let found = subst (λ r. IfOk r (λ v. IsFoundOf gives c.work_together-parts.result.1.0.taken v.items)) c.in_ok-found.was c.work_together-parts.ensures.found in
    let parts : All (IsPart gives q) c.in_ok-parts.field-0.items =
    subst (λ r. IfOk r (λ v. All (IsPart gives q) v.items)) c.in_ok-parts.was c.work_together-parts.ensures.parts in (
      c.in_order.ensures.order,
      all_given gives q c.in_ok-found.field-0.items c.in_ok-parts.field-0.items _ c.in_order.new.found.items found.1 parts c.in_ok-all.ensures.items c.in_order.ensures.same,
    )
