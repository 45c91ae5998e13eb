use Rattle.std.proofs.Common.{◌≡◌, replicate, None}
use Rattle.cert_check.proofs.memos.no_lines.Given as goal

abbrev pub invariant-loop : goal.invariant-loop
invariant-loop l = l.lines.items ≡ replicate l.counter None
