use Rattle.std.proofs.Common.{◌≡◌, ◌<◌, ℕ, refl, subst, arith, length}
use Rattle.decoding.specs.Decoding.{HaltsAtDecoding}
use Rattle.decoding.specs.Dumps.{read_fails, meets_no_end}
use Rattle.run_parts.specs.Devices.{HasGiven}
use Rattle.decoding.proofs.DecodingLemmas.{begin, ends, end_halts, one_more, feed_halts, reads_halt}
use Rattle.run_parts.proofs.DeviceLemmas.{all_read}
use Rattle.run_parts.proofs.RunLemmas.{on_error}
use Rattle.decoding.proofs.runs.decode_blocks.Goals as goal

pub loop-init : goal.loop-init
loop-init g c = record { room = c.requires.room; reads = begin g.J.Input.reader c.args.vcd.now g.S.TransactionSink.sink c.args.sink.now c.args.decoder }

pub returns-in-Ok-eq0-clause-all : goal.returns-in-Ok-eq0-clause-all
returns-in-Ok-eq0-clause-all g c =
    let reader = g.J.Input.reader in
    let on = c.loop.invariant.reads in
    let room : 0 < length c.read.new.buf = omega (arith, c.loop.invariant.room, c.read.auto.buf) in
    let all = all_read reader c.args.vcd.now 4_294_967_295 c.loop.counter c.in-Ok-eq0.field-0 on.text c.read.new.buf c.loop.vcd c.read.new.self on.reading c.loop-test.true c.in-Ok-eq0.field-0-test room c.in-Ok-eq0.ensures.call c.in-Ok-eq0.ensures.failed c.in-Ok-eq0.ensures.bytes.0 c.in-Ok-eq0.ensures.bytes.1 in
    ends reader c.args.vcd.now g.S.TransactionSink.sink c.args.sink.now c.args.decoder c.end.result c.loop.counter c.loop.vcd c.read.new.self c.loop.decoder c.loop.sink c.end.new.sink on all c.end.ensures.read

pub returns-in-Ok-eq0-clause-stops : goal.returns-in-Ok-eq0-clause-stops
returns-in-Ok-eq0-clause-stops g c =
    let reader = g.J.Input.reader in
    let on = c.loop.invariant.reads in
    let room : 0 < length c.read.new.buf = omega (arith, c.loop.invariant.room, c.read.auto.buf) in
    let all = all_read reader c.args.vcd.now 4_294_967_295 c.loop.counter c.in-Ok-eq0.field-0 on.text c.read.new.buf c.loop.vcd c.read.new.self on.reading c.loop-test.true c.in-Ok-eq0.field-0-test room c.in-Ok-eq0.ensures.call c.in-Ok-eq0.ensures.failed c.in-Ok-eq0.ensures.bytes.0 c.in-Ok-eq0.ensures.bytes.1 in
    end_halts reader c.args.vcd.now g.S.TransactionSink.sink c.args.sink.now c.args.decoder c.end.result c.loop.counter c.loop.vcd c.read.new.self c.loop.decoder c.loop.sink c.end.new.sink on all c.end.ensures.stops

pub returns-in_err-feed-in-Ok-clause-stops : goal.returns-in_err-feed-in-Ok-clause-stops
returns-in_err-feed-in-Ok-clause-stops g c = λ least scl sda new.
    let reader = g.J.Input.reader in
    let sink = g.S.TransactionSink.sink in
    let on = c.loop.invariant.reads in
    let e = c.in_err-feed-in-Ok.field-0.0 in
    let some : 0 < c.in-Ok.count = omega (arith, c.in-Ok.count-test) in
    on_error c.from_residual.result e (λ e. HaltsAtDecoding sink c.args.sink.now least scl sda reader c.args.vcd.now e c.read.new.self c.feed.new.sink) c.from_residual.ensures.1
    (feed_halts reader c.args.vcd.now sink c.args.sink.now c.args.decoder c.loop.counter c.in-Ok.count c.read.new.buf c.loop.vcd c.read.new.self c.loop.decoder c.loop.sink c.feed.new.sink e on c.loop-test.true c.in-Ok.ensures.call some c.in-Ok.ensures.bound.0 c.in-Ok.ensures.failed least scl sda new (c.in_err-feed-in-Ok.ensures.stops c.args.sink.now least scl sda on.text (on.follows least scl sda new).follows))

pub returns-in-Err-clause-stops : goal.returns-in-Err-clause-stops
returns-in-Err-clause-stops g c = λ least scl sda new.
    reads_halt g.J.Input.reader c.args.vcd.now g.S.TransactionSink.sink c.args.sink.now c.args.decoder c.loop.counter c.loop.vcd c.read.new.self c.loop.decoder c.loop.sink _ c.loop.invariant.reads least scl sda new
    (λ begun. read_fails c.loop-test.true begun c.in-Err.ensures.call c.in-Err.ensures.failed) (λ begun. refl)

pub loop-preserved : goal.loop-preserved
loop-preserved g c =
    let some : 0 < c.in-Ok.count = omega (arith, c.in-Ok.count-test) in
    record {
      room = omega (arith, c.loop.invariant.room, c.read.auto.buf);
      reads = one_more g.J.Input.reader c.args.vcd.now g.S.TransactionSink.sink c.args.sink.now c.args.decoder c.loop.counter c.in-Ok.count c.read.new.buf c.loop.vcd c.read.new.self c.loop.decoder c.feed.new.self c.loop.sink c.feed.new.sink c.loop.invariant.reads c.in-Ok.ensures.call some c.in-Ok.ensures.bound.0 c.in-Ok.ensures.failed c.in-Ok.ensures.bytes.0 c.in_ok-feed-in-Ok.ensures.fed c.in_ok-feed-in-Ok.ensures.passed;
    }

pub returns-clause-stops : goal.returns-clause-stops
returns-clause-stops g c = λ least scl sda new.
    let on = c.loop.invariant.reads in
    let all : c.loop.counter ≡ 4_294_967_295 = omega (arith, c.loop-test.false, c.loop.auto.counter-end) in
    reads_halt g.J.Input.reader c.args.vcd.now g.S.TransactionSink.sink c.args.sink.now c.args.decoder c.loop.counter c.loop.vcd c.loop.vcd c.loop.decoder c.loop.sink _ on least scl sda new
    (λ begun. meets_no_end (record { given = subst (λ (n : ℕ). HasGiven g.J.Input.reader c.args.vcd.now n on.text c.loop.vcd) all on.reading.read; passes = begun.passes }))
    (λ begun. refl)
