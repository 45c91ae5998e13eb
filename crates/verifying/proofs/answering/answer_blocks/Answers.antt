use Rattle.std.proofs.Common.{◌≡◌, ◌<◌, ◌≤◌, ℕ, inl, inr, subst, arith, length}
use Rattle.plan_core.specs.PlanContents.{plan_contents}
use Rattle.verifying.specs.Answering.{HaltsAtAnswer, unread}
use Rattle.run_parts.specs.Devices.{HasGiven}
use Rattle.run_parts.specs.declared.errors.RunError.TheVariants as error
use Rattle.run_parts.proofs.RunLemmas.{on_error}
use Rattle.verifying.proofs.AnswerReading.{begin, one_more, ends, ended, piece_halts}
use Rattle.run_parts.proofs.DeviceLemmas.{all_read}
use Rattle.verifying.proofs.answering.answer_blocks.Goals as goal

pub loop-init : goal.loop-init
loop-init g c = record { size = c.requires.size; plan = c.requires.plan; reads = begin g.J.Input.reader c.args.cert.now (plan_contents c.args.plan.now) c.args.checker c.requires.fed }

pub returns-in-Ok-eq0-clause-all : goal.returns-in-Ok-eq0-clause-all
returns-in-Ok-eq0-clause-all g c =
    let reader = g.J.Input.reader in
    let on = c.loop.invariant.reads in
    let room : 0 < length c.read.new.buf = omega (arith, c.loop.invariant.size, c.read.auto.buf) in
    let all = all_read reader c.args.cert.now 4_294_967_295 c.loop.counter c.in-Ok-eq0.field-0 on.text c.read.new.buf c.loop.cert c.read.new.self on.reading c.loop-test.true c.in-Ok-eq0.field-0-test room c.in-Ok-eq0.ensures.call c.in-Ok-eq0.ensures.failed c.in-Ok-eq0.ensures.bytes.0 c.in-Ok-eq0.ensures.bytes.1 in
    ends reader c.args.cert.now (plan_contents c.args.plan.now) c.end.result c.loop.counter c.loop.cert c.read.new.self c.loop.checker on all c.end.ensures.answer

pub returns-in-Ok-eq0-clause-stops : goal.returns-in-Ok-eq0-clause-stops
returns-in-Ok-eq0-clause-stops g c =
    let reader = g.J.Input.reader in
    let on = c.loop.invariant.reads in
    let room : 0 < length c.read.new.buf = omega (arith, c.loop.invariant.size, c.read.auto.buf) in
    let all = all_read reader c.args.cert.now 4_294_967_295 c.loop.counter c.in-Ok-eq0.field-0 on.text c.read.new.buf c.loop.cert c.read.new.self on.reading c.loop-test.true c.in-Ok-eq0.field-0-test room c.in-Ok-eq0.ensures.call c.in-Ok-eq0.ensures.failed c.in-Ok-eq0.ensures.bytes.0 c.in-Ok-eq0.ensures.bytes.1 in
    let few : c.loop.counter ≤ 4_294_967_295 = omega (arith, c.loop-test.true) in
    ended reader c.args.cert.now (plan_contents c.args.plan.now) c.end.result c.loop.counter c.loop.cert c.read.new.self c.loop.checker on few all c.end.ensures.stops

pub returns-in_err-checker-in-Ok-clause-stops : goal.returns-in_err-checker-in-Ok-clause-stops
returns-in_err-checker-in-Ok-clause-stops g c =
    let reader = g.J.Input.reader in
    let on = c.loop.invariant.reads in
    let some : 0 < c.in-Ok.count = omega (arith, c.in-Ok.count-test) in
    let size : length c.read.new.buf ≡ 65_536 = omega (arith, c.loop.invariant.size, c.read.auto.buf) in
    on_error c.from_residual.result c.in_err-checker-in-Ok.field-0.0 (λ e. HaltsAtAnswer reader c.args.cert.now e c.read.new.self) c.from_residual.ensures.1
    (piece_halts reader c.args.cert.now (plan_contents c.args.plan.now) c.loop.counter c.in-Ok.count c.read.new.buf c.loop.cert c.read.new.self c.loop.checker c.in_err-checker-in-Ok.field-0.0 on c.loop-test.true c.in-Ok.ensures.call some c.in-Ok.ensures.bound.0 size c.in-Ok.ensures.failed c.in-Ok.ensures.bytes.0 c.in_err-checker-in-Ok.ensures.stops)

pub returns-in-Err-clause-stops : goal.returns-in-Err-clause-stops
returns-in-Err-clause-stops g c =
    let on = c.loop.invariant.reads in
    unread {error = error.Read} (inl (record { reads = c.loop.counter; few = c.loop-test.true; text = on.text; last = c.loop.cert; read = on.reading.read; room = length c.read.new.buf; fault = c.in-Err.ensures.call; failed = c.in-Err.ensures.failed }))

pub loop-preserved : goal.loop-preserved
loop-preserved g c =
    let some : 0 < c.in-Ok.count = omega (arith, c.in-Ok.count-test) in
    let size : length c.read.new.buf ≡ 65_536 = omega (arith, c.loop.invariant.size, c.read.auto.buf) in
    record {
      size = size;
      plan = c.in_ok-checker-in-Ok.ensures.plan;
      reads = one_more g.J.Input.reader c.args.cert.now (plan_contents c.args.plan.now) c.loop.counter c.in-Ok.count c.read.new.buf c.loop.cert c.read.new.self c.loop.checker c.in_ok-checker-in-Ok.checker c.loop.invariant.reads c.in-Ok.ensures.call some c.in-Ok.ensures.bound.0 size c.in-Ok.ensures.failed c.in-Ok.ensures.bytes.0 c.in_ok-checker-in-Ok.ensures.fed;
    }

pub returns-clause-stops : goal.returns-clause-stops
returns-clause-stops g c =
    let on = c.loop.invariant.reads in
    let all : c.loop.counter ≡ 4_294_967_295 = omega (arith, c.loop-test.false, c.loop.auto.counter-end) in
    unread {error = error.Read} (inr (record { text = on.text; read = subst (λ (n : ℕ). HasGiven g.J.Input.reader c.args.cert.now n on.text c.loop.cert) all on.reading.read }))
