-- What the streams for tests do that fail where they are asked to.
use Rattle.std.specs.Prelude.{◌≡◌, ℕ, ◌-◌, ◌==◌, ◌&&◌, min, max, List, ◌++◌, length, take, drop, Option, None, Some, is_none, if◌then◌else◌}
use Rattle.report.specs.declared.faulty.FaultyReader.{FaultyReader}
use Rattle.report.specs.declared.faulty.FaultyWriter.{FaultyWriter}
use Rattle.run_parts.specs.Devices.{Reader, Writer}

-- A read with room for so many bytes: the call that is to fail answers an error and reads nothing, and each other gives
-- the next bytes, one piece at most.
pub record FaultyRead (before : FaultyReader) (room : ℕ) (given : Option (List ℕ)) (after : FaultyReader) : Type 0 where
  pub gives : given ≡ (if before.fails_in == 1 then None else Some (take (min room (max before.piece 1)) before.rest.now))
  pub left : after.rest.now ≡ (if before.fails_in == 1 then before.rest.now else drop (min room (max before.piece 1)) before.rest.now)
  pub next : after.fails_in ≡ before.fails_in - 1
  pub piece : after.piece ≡ before.piece
  pub failed : after.has_failed ≡ is_none given

abbrev pub faulty_reader : Reader FaultyReader
faulty_reader = record {
  remaining = λ s. Some s.rest.now;
  has_failed = λ s. s.has_failed;
  gives = FaultyRead;
}

-- A write of these bytes: the first of them are taken, as many as there is room for; where there is none, it answers an
-- error, or takes none.
pub record FaultyWrite (before : FaultyWriter) (bytes : List ℕ) (taken : Option ℕ) (after : FaultyWriter) : Type 0 where
  pub takes : taken ≡ (if before.fails && before.room == 0 then None else Some (min (length bytes) before.room))
  pub keeps : after.taken.items ≡ before.taken.items ++ take before.room bytes
  pub room : after.room ≡ before.room - length bytes
  pub fails : after.fails ≡ before.fails
  pub failed : after.has_failed ≡ is_none taken

abbrev pub faulty_writer : Writer FaultyWriter
faulty_writer = record {
  contents = λ s. Some s.taken.items;
  has_failed = λ s. s.has_failed;
  takes = FaultyWrite;
}
