use Rattle.std.proofs.Common.{ℕ, ◌↔◌, List, Option, Bor, false, sym, subst}
use Rattle.std.specs.Prelude.{IsTrue, IfSome}
use Rattle.certificate.specs.declared.values.Cert.{Cert}
use Rattle.certificate.specs.Proofs.{proof_tree}
use Rattle.certificate.specs.Reading.{AddsProof}
use Rattle.plan_core.specs.PlanContents.{plan_contents}
use Rattle.cert_check.specs.Proved.{ProvesPair}
use Rattle.cert_check.proofs.remembered.judge_spare.Goals as goal

pub returns-clause-more : goal.returns-clause-more
returns-clause-more c = λ _ text trees so_far tallied.
    let plan = plan_contents c.args.plan.now in
    let tree = proof_tree c.in-Some.proof in
    let read : AddsProof c.in-Some.proof c.args.lines.now c.next_line.new.self = subst (λ (o : Option (Cert × Bor (List ℕ))). IfSome o (λ it. AddsProof it.0 c.args.lines.now c.next_line.new.self)) c.in-Some.is c.in_ok-proof.ensures.read in
    let told = subst (λ (o : Option ℕ). IfSome o (λ j. IsTrue false ↔ ProvesPair plan j tree)) (sym c.requires) tt in
    (tree, read text trees so_far, c.add.ensures trees tree tallied told)
