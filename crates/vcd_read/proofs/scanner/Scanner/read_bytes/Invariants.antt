use Rattle.std.proofs.Common.{◌≡◌, ◌≤◌, ◌+◌, ◌-◌, ◌++◌, length, drop}
use Rattle.std.specs.List.{slice_range}
use Rattle.vcd_read.specs.Pieces.{kept_of, bytes_read, RoomForToken, RoomForSamples}
use Rattle.vcd_read.proofs.scanner.Scanner.read_bytes.Given as goal

-- With what has passed since the last white space held too, the rest of the piece is still to be read.
abbrev pub invariant-loop-at : goal.invariant-loop-at
invariant-loop-at g l = record {
  start : l.start ≤ l.at;
  rest : bytes_read (record (kept_of l.self) { held = l.self.held.items ++ slice_range l.piece l.start l.at }) (drop l.at l.piece)
      ≡ bytes_read (kept_of l.fn.self) l.piece;
  token_room : RoomForToken (length l.piece - l.start) l.self;
  samples_room : RoomForSamples (length l.piece - l.at + 2) l.self;
}
