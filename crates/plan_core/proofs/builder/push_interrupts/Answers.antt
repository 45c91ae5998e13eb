use Rattle.std.proofs.Common.{◌++◌, ◌∷◌, [], map, sym, ◌∙◌, ap, append_assoc, zero-add}
use Rattle.std.specs.List.{range_with_len}
use Rattle.std.proofs.lemmas.List.FromFn.{map-range_with_len_more}
use Rattle.plan_core.specs.declared.plans.Participant.TheVariants.{Interrupt}
use Rattle.plan_core.proofs.builder.push_interrupts.Goals as goal

pub loop-k-preserved : goal.loop-k-preserved
loop-k-preserved c =
    let old = c.args.participants.now.items in
    let k = c.loop-k.k in
    c.in_ok-push.ensures.items ∙ ap (λ xs. xs ++ Interrupt k ∷ []) c.loop-k.invariant ∙ append_assoc old (map Interrupt (range_with_len 0 k)) (Interrupt k ∷ [])
    ∙ ap (λ xs. old ++ xs) (sym (map-range_with_len_more Interrupt 0 k k (zero-add k)))
