use Rattle.std.proofs.Common.{arith, subst, List}
use Rattle.plan_core.specs.PlanContents.{plan_contents}
use Rattle.message_tree.specs.Texts.{message}
use Rattle.pair_walk.specs.declared.shared.Node.{Node}
use Rattle.pair_walk.specs.Shared.{NeverMeet, NeverFault}
use Rattle.pair_walk.proofs.Faulty.{pair_is_below, proof_at}
use Rattle.pair_walk.proofs.SharedLemmas.{on_true}
use Rattle.pair_walk.proofs.quick.never_faulty.Goals as goal

pub root_of-requires-clause-participant : goal.root_of-requires-clause-participant
root_of-requires-clause-participant c =
    let b = pair_is_below (plan_contents c.args.plan.now) c.args.i c.pair-x.result c.pair-x.ensures in
    omega (arith, b.0, b.1)

pub root_of-requires-in-Some-clause-participant : goal.root_of-requires-in-Some-clause-participant
root_of-requires-in-Some-clause-participant c =
    (pair_is_below (plan_contents c.args.plan.now) c.args.i c.pair-x.result c.pair-x.ensures).1

pub returns-in-Some-root_of : goal.returns-in-Some-root_of
returns-in-Some-root_of c =
    let plan = plan_contents c.args.plan.now in
    let s = c.in-Some.ensures in
    let t = c.in-Some-root_of.ensures in
    let nodes = c.args.shared.now.nodes.items in
    let a = c.in-Some.a in
    let b = c.in-Some-root_of.b in
    let so : NeverMeet nodes a b → NeverFault plan c.args.i = λ n.
    let p = n.frames s.0 t.0 s.2 t.2 in
    λ x y e. (p.0, proof_at plan c.args.i c.pair-x.result (message s.0) (message t.0) p.0 c.pair-x.ensures s.1 t.1 p.1 x y e) in
    let places = c.last_alike-c.result in
    let later : NeverMeet nodes places.0 places.1 → NeverMeet nodes a b = c.last_alike-c.ensures nodes c.requires.nodes.marked in
    on_true c.never_clash.result (NeverMeet c.deref.result.now places.0 places.1) (NeverFault plan c.args.i) (λ n. so (later (subst (λ (xs : List Node). NeverMeet xs places.0 places.1) c.deref.ensures.value n))) c.never_clash.ensures
