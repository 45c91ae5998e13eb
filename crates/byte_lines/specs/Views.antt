-- What the lines that are being made stand for.
use Rattle.std.specs.Prelude.{◌≡◌, ◌+◌, List, ◌++◌, length, string_bytes}
use Rattle.byte_lines.specs.Lines.{decode_lines, stopped}
use Rattle.byte_lines.specs.declared.telling.ByteTelling.{ByteTelling}
use Rattle.capture_check.specs.Transactions.{Recorded}
use Rattle.decoding.specs.Sinks.{Sink}
use Rattle.run_parts.specs.declared.errors.RunError.TheVariants.{NoMemory}

-- the lines of these transactions were added, and they were counted, and those of them that a STOP ended
pub record TellsMore (before : ByteTelling) (ts : List Recorded) (after : ByteTelling) : Type 0 where
  pub lines : string_bytes after.lines ≡ string_bytes before.lines ++ decode_lines ts
  pub transactions : after.transactions ≡ before.transactions + length ts
  pub stopped : after.stopped ≡ before.stopped + stopped ts

-- a call tells of its transactions, or memory runs out
abbrev pub byte_sink : Sink ByteTelling
byte_sink = record {
  takes = TellsMore;
  stops = λ before ts error after. error ≡ NoMemory;
}
