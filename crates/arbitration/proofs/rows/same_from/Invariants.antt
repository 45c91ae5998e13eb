use Rattle.std.proofs.Common.{◌≡◌, ◌+◌, ℕ, drop, length}
use Rattle.arbitration.proofs.rows.same_from.Given as goal

-- the last n bytes
abbrev pub invariant-loop-n : goal.invariant-loop-n
invariant-loop-n l =
    (k : ℕ) → l.n + k ≡ length l.first.bytes.items → drop k l.first.bytes.items ≡ drop k l.second.bytes.items
