use Rattle.std.proofs.Common.{◌≡◌, ◌<◌, ◌^◌, drop}
use Rattle.vcd_read.specs.Words.{number_from}
use Rattle.vcd_read.proofs.words.long_time_of.Given as goal

-- the number so far and the digits that are left write what all digits write
abbrev pub invariant-loop-digit : goal.invariant-loop-digit
invariant-loop-digit l = record {
  value : number_from l.time (drop l.digit-index l.digits) ≡ number_from 0 l.fn.digits;
  fits : l.time < 2 ^ 64;
}
