-- What lines that are written as they come stand for. Only private contracts and proofs use this.
use Rattle.std.specs.Prelude.{◌≡◌, ◌⊎◌, ◌+◌, false, List, [], ℕ, ◌++◌, length, string_bytes}
use Rattle.byte_lines.specs.Lines.{decode_lines, stopped}
use Rattle.byte_lines.specs.declared.writing.ByteWriting.{ByteWriting}
use Rattle.capture_check.specs.Transactions.{Recorded}
use Rattle.decoding.specs.Sinks.{Sink}
use Rattle.run_parts.specs.Devices.{Writer}
use Rattle.run_parts.specs.Writing.{WritesAll, WritingStops}
use Rattle.run_parts.specs.declared.errors.RunError.{RunError}
use Rattle.run_parts.specs.declared.errors.RunError.TheVariants.{NoMemory}

-- the lines that were kept, and those of these transactions
abbrev pub lines_with : {O : Type 0} → ByteWriting O → List Recorded → List ℕ
lines_with before ts = string_bytes before.telling.lines ++ decode_lines ts

module _ {O : Type 0} (writer : Writer O) (before : ByteWriting O) (ts : List Recorded) where
  -- nothing was written, and all these lines are kept, which is not so where it is live
  pub record KeepsLines (after : ByteWriting O) : Type 0 where
    pub blocks : before.live ≡ false
    pub same : after.out.now ≡ before.out.now
    pub lines : string_bytes after.telling.lines ≡ lines_with before ts

  -- all these lines were written, and none is kept
  pub record WritesLines (after : ByteWriting O) : Type 0 where
    pub written : WritesAll writer before.out.now (lines_with before ts) after.out.now
    pub lines : string_bytes after.telling.lines ≡ []

  -- these lines are kept, or they were written, and the transactions were counted
  pub record TakesLines (after : ByteWriting O) : Type 0 where
    pub same_writer : after.out.ghost_name ≡ before.out.ghost_name
    pub live : after.live ≡ before.live
    pub lines : KeepsLines after ⊎ WritesLines after
    pub transactions : after.telling.transactions ≡ before.telling.transactions + length ts
    pub stopped : after.telling.stopped ≡ before.telling.stopped + stopped ts

  -- the writer failed at these lines
  pub record FailsAtLines (error : RunError) (after : ByteWriting O) : Type 0 where
    pub same_writer : after.out.ghost_name ≡ before.out.ghost_name
    pub stops : WritingStops writer before.out.now (lines_with before ts) error after.out.now

  -- memory ran out, and nothing was written
  pub record NoRoom (error : RunError) (after : ByteWriting O) : Type 0 where
    pub same_writer : after.out.ghost_name ≡ before.out.ghost_name
    pub no_memory : error ≡ NoMemory
    pub same : after.out.now ≡ before.out.now

-- a call adds the lines of its transactions to those that are kept, and writes all of these or none
abbrev pub writing_sink : {O : Type 0} → Writer O → Sink (ByteWriting O)
writing_sink writer = record {
  takes = λ before ts after. TakesLines writer before ts after;
  stops = λ before ts error after. NoRoom writer before ts error after ⊎ FailsAtLines writer before ts error after;
}
