use Rattle.bus_bench.proofs.OpeningLemmas.{set_up, is_opening}
use Rattle.bus_bench.proofs.opening.open.Goals as goal

pub lay-requires : goal.lay-requires
lay-requires c = set_up c.args.plan.now c.args.starters.now c.in_ok-numbers.field-0.items c.args.answers.now c.in_ok-bits.field-0.items c.in_ok-numbers.ensures c.in_ok-bits.ensures c.requires.safe c.requires.starters

pub invariant_of-bench : goal.invariant_of-bench
invariant_of-bench c =
    is_opening _ _ _ c.in_ok-wire.ensures.1 c.in_ok-wire.ensures.0
    (set_up c.args.plan.now c.args.starters.now c.in_ok-numbers.field-0.items c.args.answers.now c.in_ok-bits.field-0.items c.in_ok-numbers.ensures c.in_ok-bits.ensures c.requires.safe c.requires.starters)

pub invariant_of-bench-2 : goal.invariant_of-bench-2
invariant_of-bench-2 c =
    is_opening _ _ _ c.in_ok-wire.ensures.1 c.in_ok-wire.ensures.0
    (set_up c.args.plan.now c.args.starters.now c.in_ok-numbers.field-0.items c.args.answers.now c.in_ok-bits.field-0.items c.in_ok-numbers.ensures c.in_ok-bits.ensures c.requires.safe c.requires.starters)
