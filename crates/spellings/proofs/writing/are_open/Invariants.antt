use Rattle.std.proofs.Common.{◌≡◌, drop}
use Rattle.std.specs.List.{list_all}
use Rattle.spellings.specs.Spelling.{is_open}
use Rattle.spellings.proofs.writing.are_open.Given as goal

-- all bits so far are open
abbrev pub invariant-loop-bit : goal.invariant-loop-bit
invariant-loop-bit l = list_all is_open (drop l.bit-index l.bits) ≡ list_all is_open l.bits
