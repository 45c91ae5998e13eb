use Rattle.std.proofs.Common.{◌≡◌, ℕ, ◌↔◌, Bor, List, Option, true, refl, sym, ◌∙◌, subst}
use Rattle.std.specs.Prelude.{IsTrue, IfSome, IfNone}
use Rattle.certificate.specs.declared.values.Cert.{Cert}
use Rattle.certificate.specs.Proofs.{proof_tree}
use Rattle.certificate.specs.Reading.{ReadSoFar, AddsProof, EndsHere}
use Rattle.plan_core.specs.PlanContents.{plan_contents}
use Rattle.cert_check.specs.Proved.{ProvesPair}
use Rattle.cert_check.proofs.remembered.judge_pair.Goals as goal

pub returns-then-is_taken-clause-more : goal.returns-then-is_taken-clause-more
returns-then-is_taken-clause-more c = λ _ text trees so_far tallied.
    let plan = plan_contents c.args.plan.now in
    let it = c.is_taken.ensures.taken c.if-is_taken.true in
    let told = subst (λ (o : Option ℕ). IfSome o (λ j. IsTrue true ↔ ProvesPair plan j it.0)) (sym c.requires.pair) ((λ _. it.1), (λ _. refl)) in
    (it.0, it.2 text trees so_far, c.add.ensures trees it.0 tallied told)

pub returns-in-Some-clause-more : goal.returns-in-Some-clause-more
returns-in-Some-clause-more c = λ _ text trees so_far tallied.
    let plan = plan_contents c.args.plan.now in
    let it = c.in-Some.ensures.read in
    let unmoved : c.is_taken.new.lines ≡ c.args.lines.now = c.is_taken.ensures.unchanged c.if-is_taken.false in
    let told = subst (λ (o : Option ℕ). IfSome o (λ j. IsTrue true ↔ ProvesPair plan j it.0)) (sym c.requires.pair) ((λ _. it.1), (λ _. refl)) in
    (it.0, it.2 text trees (subst (ReadSoFar text trees) (sym unmoved) so_far), c.add-in-Some.ensures trees it.0 tallied told)

pub returns-clause-more : goal.returns-clause-more
returns-clause-more c = λ _ text trees so_far tallied.
    let plan = plan_contents c.args.plan.now in
    let tree = proof_tree c.in-Some-2.proof in
    let unmoved : c.take_quick.new.lines ≡ c.args.lines.now = c.in_default.ensures.unchanged ∙ c.is_taken.ensures.unchanged c.if-is_taken.false in
    let read : AddsProof c.in-Some-2.proof c.take_quick.new.lines c.next_line.new.self = subst (λ (o : Option (Cert × Bor (List ℕ))). IfSome o (λ it. AddsProof it.0 c.take_quick.new.lines c.next_line.new.self)) c.in-Some-2.is c.in_ok-proof.ensures.read in
    let told = subst (λ (o : Option ℕ). IfSome o (λ j. IsTrue c.check_pair-proves.result ↔ ProvesPair plan j tree)) (sym c.requires.pair) c.check_pair-proves.ensures in
    (tree, read text trees (subst (ReadSoFar text trees) (sym unmoved) so_far), c.add-2.ensures trees tree tallied told)

pub returns-in_default-2-clause-end : goal.returns-in_default-2-clause-end
returns-in_default-2-clause-end c = λ _.
    let unmoved : c.take_quick.new.lines ≡ c.args.lines.now = c.in_default.ensures.unchanged ∙ c.is_taken.ensures.unchanged c.if-is_taken.false in
    let end = subst (λ (o : Option (Cert × Bor (List ℕ))). IfNone o (EndsHere c.take_quick.new.lines)) c.in_default-2.is c.in_ok-proof.ensures.end in
    let ended = subst (λ (o : Option (Cert × Bor (List ℕ))). IfNone o (c.next_line.new.self ≡ c.take_quick.new.lines)) c.in_default-2.is c.in_ok-proof.ensures.ended in
    ((λ text trees so_far. end text trees (subst (ReadSoFar text trees) (sym unmoved) so_far)), (ended ∙ unmoved, refl))
