use Rattle.std.proofs.Common.{◌≡◌, ◌+◌, ◌<◌, ◌^◌, drop, sum_by}
use Rattle.lessons.specs.Lessons.{capped, times_seen, unmarked}
use Rattle.lessons.proofs.checking.times_of_others.Given as goal

-- those so far and those that are left
abbrev pub invariant-loop-number : goal.invariant-loop-number
invariant-loop-number l = record {
  within : l.total < 2 ^ 64;
  sum : capped (l.total + sum_by times_seen (unmarked (drop l.number l.had) (drop l.number l.sights))) ≡
      capped (sum_by times_seen (unmarked l.had l.sights));
}
