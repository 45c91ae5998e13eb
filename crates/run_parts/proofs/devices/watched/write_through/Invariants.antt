use Rattle.std.specs.Io.KnownBytes.{Keeps}
use Rattle.run_parts.proofs.devices.watched.write_through.Given as goal

-- an interrupted write has taken no bytes
abbrev pub invariant-loop : goal.invariant-loop
invariant-loop g l = Keeps (g.W.Write.contents l.initial.device) (g.W.Write.contents l.device)
