use Rattle.plan_core.proofs.Headers.{alone_after_header}
use Rattle.plan_core.proofs.Model.{somebody, followed, followed_on}
use Rattle.plan_core.proofs.Safety.{round_never_clashes, goes_on, all_hear}
use Rattle.plan_core.proofs.Texts.{some_text, length_bound, end_bound}
use Rattle.verifying.proofs.AcceptLemmas as answer
use Rattle.verifying.proofs.acceptance.accept.Goals as goal

pub returns-clause-finds_safe : goal.returns-clause-finds_safe
returns-clause-finds_safe c = answer.finds_safe c.args.plan.now c.args.cert.now c.judge.result c.judge.ensures

pub returns-clause-finds_unsafe : goal.returns-clause-finds_unsafe
returns-clause-finds_unsafe c = answer.finds_unsafe c.args.plan.now c.args.cert.now c.judge.result c.judge.ensures

pub returns-clause-finds_wrong : goal.returns-clause-finds_wrong
returns-clause-finds_wrong c fault = answer.finds_wrong c.args.plan.now c.args.cert.now c.judge.result fault c.judge.ensures

pub returns-clause-refuses : goal.returns-clause-refuses
returns-clause-refuses c e = answer.refuses c.args.plan.now c.args.cert.now c.judge.result e c.judge.ensures

pub returns-clause-no_fault : goal.returns-clause-no_fault
returns-clause-no_fault c plan found = (answer.found_safe c.args.plan.now c.args.cert.now c.judge.result plan c.judge.ensures found).0

pub returns-clause-no_clash : goal.returns-clause-no_clash
returns-clause-no_clash c plan s live u put found r o =
    let safe = answer.found_safe c.args.plan.now c.args.cert.now c.judge.result plan c.judge.ensures found in
    round_never_clashes plan s u live safe.0 r put o

pub returns-clause-next : goal.returns-clause-next
returns-clause-next c plan s live u found r n =
    let safe = answer.found_safe c.args.plan.now c.args.cert.now c.judge.result plan c.judge.ensures found in
    let p = somebody r.0.some r.1 in
    goes_on plan s u live safe.0 r (followed (λ q j. some_text plan safe.1.controllers.known q (r.0.participants q j)) r.1) n p.0 p.1

pub returns-clause-answers : goal.returns-clause-answers
returns-clause-answers c plan s live u p b d found r i o =
    let safe = answer.found_safe c.args.plan.now c.args.cert.now c.judge.result plan c.judge.ensures found in
    all_hear plan s u live safe.0 r (followed (λ q j. some_text plan safe.1.controllers.known q (r.0.participants q j)) r.1) p b d i o

pub returns-clause-somebody : goal.returns-clause-somebody
returns-clause-somebody c plan s live u found r = somebody r.0.some r.1

pub returns-clause-bound : goal.returns-clause-bound
returns-clause-bound c plan s live u found r =
    let safe = answer.found_safe c.args.plan.now c.args.cert.now c.judge.result plan c.judge.ensures found in
    let p = somebody r.0.some r.1 in
    length_bound plan p.0 u safe.1.messages.bytes (followed_on r.1 p.0 p.1)

pub returns-clause-whole : goal.returns-clause-whole
returns-clause-whole c plan s live u p found r e i = end_bound plan p u e (followed_on r.1 p i)

pub returns-clause-header : goal.returns-clause-header
returns-clause-header c plan s live u p q found r n is i j =
    let safe = answer.found_safe c.args.plan.now c.args.cert.now c.judge.result plan c.judge.ensures found in
    alone_after_header plan s u live safe.0 r p q is n i j

pub returns-clause-faulty : goal.returns-clause-faulty
returns-clause-faulty c plan spelled is safe = answer.found_unsafe c.args.plan.now c.args.cert.now c.judge.result plan c.judge.ensures spelled is safe
