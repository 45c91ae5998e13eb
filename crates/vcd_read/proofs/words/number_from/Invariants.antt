use Rattle.std.proofs.Common.{◌≡◌, ◌<◌, ◌+◌, ◌^◌, drop}
use Rattle.vcd_read.specs.Words.{number_from}
use Rattle.vcd_read.proofs.words.number_from.Given as goal

-- the number so far and the digits that are left write what all digits write, and so many digits write no more
abbrev pub invariant-loop-digit : goal.invariant-loop-digit
invariant-loop-digit l = record {
  value : number_from l.number (drop l.digit-index l.digits) ≡ number_from l.fn.number l.fn.digits;
  fits : l.number < 10 ^ (8 + l.digit-index);
}
