use Rattle.vcd_read.specs.Views.{asked}
use Rattle.decoding.specs.Decoding.{HaltsAtDecoding}
use Rattle.run_parts.specs.declared.errors.RunError.TheVariants as error
use Rattle.decoding.proofs.TakingLemmas.{not_begun}
use Rattle.run_parts.proofs.RunLemmas.{on_error}
use Rattle.decoding.proofs.runs.decode_beside.Goals as goal

pub returns-in_err-block-clause-stops : goal.returns-in_err-block-clause-stops
returns-in_err-block-clause-stops g c =
    on_error c.from_residual.result error.NoMemory (λ e. HaltsAtDecoding g.S.TransactionSink.sink c.args.sink.now c.args.least (asked c.args.scl) (asked c.args.sda) g.J.Input.reader c.args.vcd.now e c.args.vcd.now c.args.sink.now) c.from_residual.ensures.1
    (not_begun g.S.TransactionSink.sink c.args.sink.now c.args.least (asked c.args.scl) (asked c.args.sda) g.J.Input.reader c.args.vcd.now)

pub returns-in_err-decoder-clause-stops : goal.returns-in_err-decoder-clause-stops
returns-in_err-decoder-clause-stops g c =
    on_error c.from_residual-in_err-decoder.result error.NoMemory (λ e. HaltsAtDecoding g.S.TransactionSink.sink c.args.sink.now c.args.least (asked c.args.scl) (asked c.args.sda) g.J.Input.reader c.args.vcd.now e c.args.vcd.now c.args.sink.now) c.from_residual-in_err-decoder.ensures.1
    (not_begun g.S.TransactionSink.sink c.args.sink.now c.args.least (asked c.args.scl) (asked c.args.sda) g.J.Input.reader c.args.vcd.now)

pub returns-clause-all : goal.returns-clause-all
returns-clause-all g c = c.decode_blocks.ensures.all c.args.least (asked c.args.scl) (asked c.args.sda) c.in_ok-decoder.ensures

pub returns-clause-stops : goal.returns-clause-stops
returns-clause-stops g c = c.decode_blocks.ensures.stops c.args.least (asked c.args.scl) (asked c.args.sda) c.in_ok-decoder.ensures
