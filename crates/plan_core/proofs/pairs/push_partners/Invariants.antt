use Rattle.std.proofs.Common.{◌≡◌, ◌++◌, Some}
use Rattle.plan_core.specs.Pairs.{partners_by}
use Rattle.plan_core.specs.PairTables.{never_together, are_apart}
use Rattle.plan_core.proofs.pairs.push_partners.Given as goal

abbrev pub invariant-loop-y : goal.invariant-loop-y
invariant-loop-y l = record {
  kept : l.apart ≡ never_together l.nevers (Some l.own) (Some l.last);
  items : l.all.items ≡ l.initial.all.items ++ partners_by (are_apart l.nevers l.participants) l.y l.x;
}
