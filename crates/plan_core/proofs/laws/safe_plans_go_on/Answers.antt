use Rattle.plan_core.proofs.Headers.{alone_after_header}
use Rattle.plan_core.proofs.Texts.{some_text}
use Rattle.plan_core.proofs.Model.{somebody, followed}
use Rattle.plan_core.proofs.Safety.{round_never_clashes, goes_on, all_hear}
use Rattle.plan_core.proofs.laws.safe_plans_go_on.Goals as goal

pub returns-clause-clash : goal.returns-clause-clash
returns-clause-clash c plan s live u put safe r o = round_never_clashes plan s u live safe r put o

pub returns-clause-next : goal.returns-clause-next
returns-clause-next c plan s live u m safe r n =
    let p = somebody r.0.some r.1 in
    goes_on plan s u live safe r (followed (λ q j. some_text plan m q (r.0.participants q j)) r.1) n p.0 p.1

pub returns-clause-answers : goal.returns-clause-answers
returns-clause-answers c plan s live u p b d m safe r i o =
    all_hear plan s u live safe r (followed (λ q j. some_text plan m q (r.0.participants q j)) r.1) p b d i o

pub returns-clause-header : goal.returns-clause-header
returns-clause-header c plan s live u p q safe r n is i j = alone_after_header plan s u live safe r p q is n i j
