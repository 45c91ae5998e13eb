use Rattle.std.proofs.Common.{length}
use Rattle.run_parts.proofs.DeviceLemmas.{Writing}
use Rattle.run_parts.proofs.devices.writing.write_report.Given as goal

-- what is gone from `rest` was taken
abbrev pub invariant-loop-rest : goal.invariant-loop-rest
invariant-loop-rest g l = Writing g.O.Output.writer l.initial.writer l.initial.rest l.rest l.writer

abbrev pub decreases-loop-rest : goal.decreases-loop-rest
decreases-loop-rest g l = length l.rest
