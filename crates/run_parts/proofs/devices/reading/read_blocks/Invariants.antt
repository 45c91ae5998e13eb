use Rattle.run_parts.proofs.DeviceLemmas.{Reading}
use Rattle.run_parts.proofs.devices.reading.read_blocks.Given as goal

-- each read so far has given some bytes, which are those that the reader has lost
abbrev pub invariant-loop : goal.invariant-loop
invariant-loop g l = Reading g.I.Input.reader l.initial.reader l.counter l.bytes.items l.reader
