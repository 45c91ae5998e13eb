use Rattle.std.proofs.Common.{◌≡◌, ◌+◌, ◌<◌, ◌^◌, drop, sum_by}
use Rattle.lessons.specs.Lessons.{capped, times_odd}
use Rattle.lessons.proofs.checking.times_of.Given as goal

-- those so far and those that are left
abbrev pub invariant-loop-odd : goal.invariant-loop-odd
invariant-loop-odd l = record {
  within : l.total < 2 ^ 64;
  sum : capped (l.total + sum_by times_odd (drop l.odd-index l.odds)) ≡ capped (sum_by times_odd l.odds);
}
