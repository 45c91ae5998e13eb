use Rattle.std.proofs.Common.{◌≡◌, ◌<◌, ◌∙◌, Some, length, sym, subst}
use Rattle.plan_core.specs.Participants.{participant_count, sender_at}
use Rattle.plan_core.specs.Senders.{what_is_sent}
use Rattle.plan_core.specs.PlanContents.{plan_contents}
use Rattle.plan_core.specs.declared.plans.Plan.{Plan}
use Rattle.bus_bench.specs.Seats.{BenchName}
use Rattle.bus_bench.proofs.ViewLemmas.{any_default}
use Rattle.bus_bench.specs.Tickets.{setup_of}
use Rattle.bus_bench.specs.Opening.{IsHanding}
use Rattle.bus_bench.proofs.OpeningLemmas.{hand_out_allowed, starter_known, handed_seat}
use Rattle.bus_bench.proofs.opening.hand_out.Goals as goal

-- the plan of the bench is the one that is handed in
same_plan : (bench : BenchName) (key plan : Plan) → Some key ≡ bench.plan → bench.plan ≡ Some plan → key ≡ plan
same_plan bench key plan named given = cc (named ∙ given)

pub split_seat-part-requires : goal.split_seat-part-requires
split_seat-part-requires c =
    let b = c.bench.inside in
    let t = c.args.ticket.now in
    let h = subst (λ n. IsHanding n c.args.number t.table_id t.me) (sym c.bench.view_is) c.requires.host in
    hand_out_allowed t.table_id b.wire.shared.table_id b.wire.shared.key (setup_of b.wire.shared.key b.terms) t.id t.me c.args.number h.named c.bench.invariant h (subst (λ (n : BenchName). c.args.number < length n.starters) (sym c.bench.view_is) c.requires.number)

pub sends-requires : goal.sends-requires
sends-requires c =
    let b = c.bench.inside in
    let lt : c.args.number < length b.terms.starters.items = subst (λ (n : BenchName). c.args.number < length n.starters) (sym c.bench.view_is) c.requires.number in
    subst (λ (p : Plan). c.index-starter.result.now < participant_count (plan_contents p)) (same_plan c.args.bench.now b.wire.shared.key.plan.now c.args.plan.now (λ i. (c.bench.view_is i).plan) c.requires.plan)
    (starter_known b.wire.shared.table_id b.wire.shared.key (setup_of b.wire.shared.key b.terms) c.args.number c.index-starter.result.now c.bench.invariant lt (c.index-starter.ensures ∙ any_default b.terms.starters.items c.args.number _ 0 lt))

pub invariant_of-result : goal.invariant_of-result
invariant_of-result c =
    let b = c.bench.inside in
    let t = c.args.ticket.now in
    let h = subst (λ n. IsHanding n c.args.number t.table_id t.me) (sym c.bench.view_is) c.requires.host in
    let lt : c.args.number < length b.terms.starters.items = subst (λ (n : BenchName). c.args.number < length n.starters) (sym c.bench.view_is) c.requires.number in
    let same = same_plan c.args.bench.now b.wire.shared.key.plan.now c.args.plan.now (λ i. (c.bench.view_is i).plan) c.requires.plan in
    handed_seat t.table_id b.wire.shared.table_id b.wire.shared.key (setup_of b.wire.shared.key b.terms) t.me c.split_seat-part.result.me c.args.number c.index-starter.result.now c.len.result c.start.result _ h.named c.bench.invariant h.out lt c.split_seat-part.ensures.4 (c.len.ensures ∙ b.terms.starters.ok.0) (c.index-starter.ensures ∙ any_default b.terms.starters.items c.args.number _ 0 lt) (subst (λ (p : Plan). sender_at (plan_contents p) c.index-starter.result.now ≡ Some (what_is_sent c.sends.result)) (sym same) c.sends.ensures) c.start.ensures
