use Rattle.std.specs.Io.KnownBytes.{Keeps}
use Rattle.run_parts.proofs.devices.watched.read_through.Given as goal

-- an interrupted read has lost no bytes
abbrev pub invariant-loop : goal.invariant-loop
invariant-loop g l = Keeps (g.R.Read.remaining l.initial.device) (g.R.Read.remaining l.device)
