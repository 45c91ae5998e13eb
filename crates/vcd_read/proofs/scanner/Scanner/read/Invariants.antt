use Rattle.std.proofs.Common.{◌≡◌, ◌<◌, ◌≤◌, ◌+◌, ◌-◌, ◌^◌, length, drop}
use Rattle.vcd_read.specs.Pieces.{kept_of, bytes_read, RoomForToken, RoomForSamples}
use Rattle.vcd_read.proofs.MaskLemmas.{Marks}
use Rattle.vcd_read.proofs.ScanLemmas.{NoWhite}
use Rattle.vcd_read.proofs.scanner.Scanner.read.Given as goal

-- What stands from `start` on is still to be read, and has no white space before `at`.
abbrev pub invariant-loop-at : goal.invariant-loop-at
invariant-loop-at g l = record {
  start : l.start ≤ l.at;
  at : l.at ≤ length l.piece;
  none : NoWhite l.piece l.start l.at;
  rest : bytes_read (kept_of l.self) (drop l.start l.piece) ≡ bytes_read (kept_of l.fn.self) l.piece;
  token_room : RoomForToken (length l.piece - l.start) l.self;
  samples_room : RoomForSamples (length l.piece - l.start + 2) l.self;
}

-- The bits that are left are those of the white space from `start` on.
abbrev pub invariant-loop-rest : goal.invariant-loop-rest
invariant-loop-rest g l = record {
  start : l.start ≤ l.at + 64;
  none : NoWhite l.piece l.start l.at;
  marks : Marks l.rest l.piece l.at l.start;
  fits : l.rest < 2 ^ 64;
  rest : bytes_read (kept_of l.self) (drop l.start l.piece) ≡ bytes_read (kept_of l.fn.self) l.piece;
  token_room : RoomForToken (length l.piece - l.start) l.self;
  samples_room : RoomForSamples (length l.piece - l.start + 2) l.self;
}

abbrev pub decreases-loop-at : goal.decreases-loop-at
decreases-loop-at g l = length l.piece - l.at

abbrev pub decreases-loop-rest : goal.decreases-loop-rest
decreases-loop-rest g l = l.rest
