use Rattle.std.proofs.Common.{◌≡◌, ◌<◌, ◌++◌, ℕ, List, [], ◌∷◌, length, vec_len, sym, ap, ◌∙◌, subst, append-nil, arith}
use Rattle.std.proofs.lemmas.List.Elements.{All-push, All-same}
use Rattle.plan_core.proofs.PlanLemmas.{limits_of}
use Rattle.plan_core.specs.PlanContents.{plan_contents}
use Rattle.plan_core.specs.Pairs.{pairs_of}
use Rattle.verdicts.specs.Texts.{lines_at, joined}
use Rattle.verdicts.proofs.Few.{places_few}
use Rattle.verdicts.proofs.ProofLines.{HasProofs, has_none, one_place_more, proofs_written}
use Rattle.verdicts.proofs.certificates.lines_of_proofs.Goals as goal

pub loop-i-init : goal.loop-i-init
loop-i-init c =
    let plan = plan_contents c.args.plan.now in
    let head = c.in_ok-head.head.items in
    let distinct = c.in_ok-distinct.distinct.items in
    let none : head ≡ head ++ joined (lines_at distinct c.in_ok-order.order.items) =
    sym (append-nil head) ∙ ap (λ (ks : List ℕ). head ++ joined (lines_at distinct ks)) (sym c.in_ok-order.ensures.items) in
    record {
      held = λ k d h. absurd (omega (arith, h, ap (λ (ks : List ℕ). length ks) c.in_ok-order.ensures.items));
      proofs = subst (λ (text : List ℕ). HasProofs plan head text 0) none (has_none plan head);
    }

pub overflow_cast-sender_place : goal.overflow_cast-sender_place
overflow_cast-sender_place c =
    let plan = plan_contents c.args.plan.now in
    omega (arith, c.sender_place.ensures.within, places_few plan (limits_of c.args.plan.now))

pub loop-i-preserved : goal.loop-i-preserved
loop-i-preserved c =
    let plan = plan_contents c.args.plan.now in
    let distinct = c.in_ok-distinct.distinct in
    let q = c.sender_place.result in
    let is_pair : c.loop-i.i < length (pairs_of plan) = omega (arith, c.loop-i-test.true, c.pair_count-i-end.ensures) in
    let held : q < vec_len distinct = omega (arith, c.sender_place.ensures.within, distinct.ok.0, c.in_ok-distinct.ensures.lines.sized) in
    record {
      held = All-same (λ place. place < vec_len distinct) c.push.new.self.items (c.loop-i.order.items ++ q ∷ []) c.in_ok-push.ensures.items (All-push (λ place. place < vec_len distinct) c.loop-i.order.items q c.loop-i.invariant.held held);
      proofs = one_place_more plan (limits_of c.args.plan.now) distinct.items c.in_ok-distinct.ensures.lines c.in_ok-distinct.ensures.made c.in_ok-head.head.items c.loop-i.order.items c.push.new.self.items c.loop-i.i q c.loop-i.invariant.proofs is_pair c.sender_place.ensures.place c.in_ok-push.ensures.items;
    }

pub returns : goal.returns
returns c =
    let plan = plan_contents c.args.plan.now in
    let head = c.in_ok-head.head.items in
    proofs_written plan head (head ++ joined (lines_at c.in_ok-distinct.distinct.items c.loop-i.order.items)) c.loop-i.i c.pair_count.result c.loop-i.invariant.proofs (omega (arith, c.loop-i-test.false, c.loop-i.auto.i-end, c.pair_count-i-end.ensures)) c.pair_count.ensures c.in_ok-head.ensures
