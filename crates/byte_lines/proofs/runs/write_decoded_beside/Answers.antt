use Rattle.std.proofs.Common.{rules, IfOk, IfErr, sym, subst, ◌∙◌}
use Rattle.byte_lines.specs.DecodedRuns.{HaltsDecoded, TellsDecoded}
use Rattle.byte_lines.proofs.WritingLemmas.{IsSilent, halts_decoded, same_to_end, ends, halts}
use Rattle.vcd_read.specs.Views.{asked}
use Rattle.byte_lines.proofs.runs.write_decoded_beside.Goals as goal

-- What the writer is comes back with the reference, whose name has stayed: that is the fact that `search` finds.
pub returns-in-Err-clause-stops : goal.returns-in-Err-clause-stops
returns-in-Err-clause-stops g c =
    let silent : IsSilent g.O.Output.writer _ = record { lines = c.new.ensures.lines; transactions = c.new.ensures.transactions; stopped = c.new.ensures.stopped } in
    let why = halts_decoded g.O.Output.writer _ silent c.args.least (asked c.args.scl) (asked c.args.sda) g.J.Input.reader c.args.vcd.now c.decode_beside-ended.new.vcd c.in-Err.error c.decode_beside-ended.new.sink c.in-Err.ensures.stops in
    let same = sym why.0 in
    subst (λ out. HaltsDecoded c.args.least (asked c.args.scl) (asked c.args.sda) g.J.Input.reader g.O.Output.writer c.args.vcd.now c.args.out.now c.args.live c.in-Err.error c.decode_beside-ended.new.vcd out) (sym (search rules)) why.1

pub returns-in-Ok-clause-report : goal.returns-in-Ok-clause-report
returns-in-Ok-clause-report g c =
    let silent : IsSilent g.O.Output.writer _ = record { lines = c.new.ensures.lines; transactions = c.new.ensures.transactions; stopped = c.new.ensures.stopped } in
    let all = ends g.O.Output.writer _ silent c.args.least (asked c.args.scl) (asked c.args.sda) g.J.Input.reader c.args.vcd.now c.decode_beside-ended.new.vcd c.decode_beside-ended.new.sink c.in-Ok.ensures.all c.write_last.result c.write_last.new.out c.write_last.ensures.transactions c.write_last.ensures.stopped c.write_last.ensures.written in
    let same = sym (same_to_end g.O.Output.writer _ silent c.args.least (asked c.args.scl) (asked c.args.sda) g.J.Input.reader c.args.vcd.now c.decode_beside-ended.new.vcd c.decode_beside-ended.new.sink c.in-Ok.ensures.all) in
    subst (λ out. IfOk c.write_last.result (λ it. TellsDecoded c.args.least (asked c.args.scl) (asked c.args.sda) g.J.Input.reader g.O.Output.writer c.args.vcd.now c.args.out.now it c.decode_beside-ended.new.vcd out)) (sym (search rules)) all

pub returns-in-Ok-clause-stops : goal.returns-in-Ok-clause-stops
returns-in-Ok-clause-stops g c =
    let silent : IsSilent g.O.Output.writer _ = record { lines = c.new.ensures.lines; transactions = c.new.ensures.transactions; stopped = c.new.ensures.stopped } in
    let why = halts g.O.Output.writer _ silent c.args.least (asked c.args.scl) (asked c.args.sda) g.J.Input.reader c.args.vcd.now c.decode_beside-ended.new.vcd c.decode_beside-ended.new.sink c.in-Ok.ensures.all c.write_last.result c.write_last.new.out c.write_last.ensures.stops in
    let same = sym (same_to_end g.O.Output.writer _ silent c.args.least (asked c.args.scl) (asked c.args.sda) g.J.Input.reader c.args.vcd.now c.decode_beside-ended.new.vcd c.decode_beside-ended.new.sink c.in-Ok.ensures.all) in
    subst (λ out. IfErr c.write_last.result (λ error. HaltsDecoded c.args.least (asked c.args.scl) (asked c.args.sda) g.J.Input.reader g.O.Output.writer c.args.vcd.now c.args.out.now c.args.live error c.decode_beside-ended.new.vcd out)) (sym (search rules)) why
