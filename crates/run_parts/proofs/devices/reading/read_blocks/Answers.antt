use Rattle.std.proofs.Common.{◌≡◌, ◌<◌, ℕ, inr, subst, refl, ◌+◌, arith}
use Rattle.run_parts.specs.Reading.{ReadingStops}
use Rattle.run_parts.specs.Devices.{HasGiven}
use Rattle.run_parts.specs.declared.errors.RunError.TheVariants as error
use Rattle.run_parts.proofs.DeviceLemmas.{nothing_read, one_more_read}
use Rattle.run_parts.proofs.RunLemmas.{on_error}
use Rattle.run_parts.proofs.devices.reading.read_blocks.Goals as goal

pub loop-init : goal.loop-init
loop-init g c = nothing_read g.I.Input.reader c.args.reader.now c.new-bytes.result.items c.new-bytes.ensures.items

pub loop-preserved : goal.loop-preserved
loop-preserved g c =
    let some : 0 < c.in-Ok.count = omega (arith, c.in-Ok.count-test) in
    one_more_read g.I.Input.reader c.args.reader.now c.loop.counter _ c.in-Ok.count c.loop.bytes.items c.read.new.buf _ _ _ c.loop.invariant c.in-Ok.ensures.call some c.in-Ok.ensures.bound.0 c.in-Ok.ensures.failed c.in-Ok.ensures.bytes.0 c.in_ok-extend_from_slice-in-Ok.ensures.items

pub returns-in_err-extend_from_slice-in-Ok-clause-stops :
    goal.returns-in_err-extend_from_slice-in-Ok-clause-stops
returns-in_err-extend_from_slice-in-Ok-clause-stops g c =
    let reader = g.I.Input.reader in
    let some : 0 < c.in-Ok.count = omega (arith, c.in-Ok.count-test) in
    let now = one_more_read reader c.args.reader.now c.loop.counter _ c.in-Ok.count c.loop.bytes.items c.read.new.buf _ _ _ c.loop.invariant c.in-Ok.ensures.call some c.in-Ok.ensures.bound.0 c.in-Ok.ensures.failed c.in-Ok.ensures.bytes.0 refl in
    on_error c.from_residual.result error.NoMemory (λ e. ReadingStops reader c.args.limit c.args.reader.now e c.read.new.self) c.from_residual.ensures.1 (record { reads = c.loop.counter + 1; few = omega arith; text = _; read = now.read })

pub returns-clause-stops : goal.returns-clause-stops
returns-clause-stops g c =
    let all : c.loop.counter ≡ c.args.limit = omega arith in
    let read = c.loop.invariant.read in
    inr (record { text = c.loop.bytes.items; read = subst (λ (n : ℕ). HasGiven g.I.Input.reader c.args.reader.now n c.loop.bytes.items c.loop.reader) all read })
