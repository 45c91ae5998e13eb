use Rattle.std.proofs.Common.{◌<◌, arith}
use Rattle.std.proofs.lemmas.List.{take_rest}
use Rattle.run_parts.proofs.DeviceLemmas.{nothing_written, one_more_written}
use Rattle.run_parts.proofs.devices.writing.write_report.Goals as goal

pub loop-rest-init : goal.loop-rest-init
loop-rest-init g c = nothing_written g.O.Output.writer c.args.writer.now c.args.report.now

pub loop-rest-preserved : goal.loop-rest-preserved
loop-rest-preserved g c =
    let some : 0 < c.in-Ok.count = omega (arith, c.in-Ok.count-test) in
    rw (take_rest c.loop-rest.rest.now c.in-Ok.count) (one_more_written g.O.Output.writer c.args.writer.now c.args.report.now c.loop-rest.rest.now c.in-Ok.count _ _ c.loop-rest.invariant c.in-Ok.ensures.call some c.in-Ok.ensures.bound c.in-Ok.ensures.failed c.in-Ok.ensures.bytes)
