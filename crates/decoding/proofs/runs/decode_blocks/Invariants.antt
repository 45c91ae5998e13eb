use Rattle.std.proofs.Common.{◌<◌, length}
use Rattle.decoding.proofs.DecodingLemmas.{ReadsOn}
use Rattle.decoding.proofs.runs.decode_blocks.Given as goal

abbrev pub invariant-loop : goal.invariant-loop
invariant-loop g l = record {
  room : 0 < length l.block;
  reads : ReadsOn g.J.Input.reader l.initial.vcd g.S.TransactionSink.sink l.initial.sink l.initial.decoder l.counter l.vcd l.decoder l.sink;
}
