use Rattle.std.proofs.Common.{◌≡◌, ◌≤◌, take}
use Rattle.causes.specs.Causes.{slot_after}
use Rattle.causes.proofs.meetings.slot_after.Given as goal

abbrev pub invariant-loop-item : goal.invariant-loop-item
invariant-loop-item l = record {
  at : (l.frame, l.slot) ≡ slot_after (take l.item-index l.wire);
  frames : l.frame ≤ l.item-index;
  slots : l.slot ≤ l.item-index;
}
