use Rattle.std.proofs.Common.{◌≡◌, ◌<◌, ◌^◌, take}
use Rattle.plan_text.specs.Words.{number}
use Rattle.plan_text.proofs.words.number.Given as goal

-- the number that the digits before this one write
abbrev pub invariant-loop-digit : goal.invariant-loop-digit
invariant-loop-digit l = record {
  value : l.number ≡ number (take l.digit-index l.digits);
  fits : l.number < 2 ^ 8;
}
