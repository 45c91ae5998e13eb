use Rattle.std.proofs.Common.{◌≡◌, take}
use Rattle.causes.specs.Causes.{header_before}
use Rattle.causes.proofs.headers.header_before.Given as goal

-- those of the items before this one
abbrev pub invariant-loop-item : goal.invariant-loop-item
invariant-loop-item l = l.header ≡ header_before (take l.item-index l.wire)
