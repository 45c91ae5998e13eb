use Rattle.std.proofs.Common.{◌≡◌, ℕ, [], Vec, Global, map, replicate}
use Rattle.verdicts.proofs.lines.no_lines.Given as goal

abbrev pub invariant-loop : goal.invariant-loop
invariant-loop l = map (λ (line : Vec ℕ Global). line.items) l.lines.items ≡ replicate l.counter []
