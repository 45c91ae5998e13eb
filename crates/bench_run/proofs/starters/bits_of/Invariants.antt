use Rattle.std.proofs.Common.{◌≡◌, take}
use Rattle.bench_run.specs.Starters.{bits_in}
use Rattle.bench_run.proofs.starters.bits_of.Given as goal

-- the bits so far
abbrev pub invariant-loop-byte : goal.invariant-loop-byte
invariant-loop-byte l = l.bits.items ≡ bits_in (take l.byte-index l.bytes)
