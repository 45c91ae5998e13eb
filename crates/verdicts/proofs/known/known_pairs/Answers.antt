use Rattle.std.proofs.Common.{◌≡◌, List, length, ap, ◌∙◌, arith}
use Rattle.std.proofs.lemmas.List.{length-replicate}
use Rattle.verdicts.specs.declared.known.Known.{Known}
use Rattle.verdicts.specs.declared.known.Known.TheVariants.{NotYet}
use Rattle.plan_core.specs.PlanContents.{plan_contents}
use Rattle.verdicts.proofs.KnownLemmas.{memo_of_none, knows_next}
use Rattle.verdicts.proofs.known.known_pairs.Goals as goal

pub loop-i-init : goal.loop-i-init
loop-i-init c =
    let n = c.sender_places.result in
    let known = c.in_ok-known.known.items in
    let sized : length known ≡ n = ap (λ (ks : List Known). length ks) c.in_ok-known.ensures ∙ length-replicate n NotYet in
    record {
      memo = memo_of_none (plan_contents c.args.plan.now) known n c.in_ok-known.ensures sized c.sender_places.ensures;
      knows = λ i h x y e. absurd (omega (arith, h));
    }

pub loop-i-preserved : goal.loop-i-preserved
loop-i-preserved c =
    let after = c.in_ok-learn.ensures in
    record {
      memo = after.memo;
      knows = knows_next (plan_contents c.args.plan.now) c.learn.new.known.items c.loop-i.i (λ j h. after.keeps j (c.loop-i.invariant.knows j h)) after.knows;
    }
