-- How the writing of a whole report ends.
use Rattle.std.specs.Prelude.{◌≡◌, ℕ, ◌<◌, ◌⊎◌, true, false, List, [], ◌++◌, length, Some, None}
use Rattle.std.specs.Io.KnownBytes.{Appends}
use Rattle.run_parts.specs.Devices.{Writer, HasTaken}
use Rattle.run_parts.specs.declared.errors.RunError.{RunError}
use Rattle.run_parts.specs.declared.errors.RunError.TheVariants as error

module _ {D : Type 0} (writer : Writer D) (start : D) (report : List ℕ) where
  -- the writer took the report, and none of it is left
  pub record WritesAll (now : D) : Type 0 where
    pub written : HasTaken writer start report [] now
    pub appended : Appends (writer.contents start) (writer.contents now) report

  -- the last write answered an error, or took none of the bytes that it was given
  abbrev pub WriteFails : D → List ℕ → D → Type 0
  WriteFails last left now =
      (writer.takes last left None now × (writer.has_failed now ≡ true))
      ⊎ (writer.takes last left (Some 0) now × (writer.has_failed now ≡ false))

  -- the writer took the front of the report, and then failed
  pub record WritesFront (now : D) : Type 0 where
    pub front : List ℕ
    pub left : List ℕ
    pub split : report ≡ front ++ left
    pub last : D
    pub written : HasTaken writer start report left last
    pub some_left : 0 < length left
    pub fault : WriteFails last left now
    pub appended : Appends (writer.contents start) (writer.contents now) front

  -- why the report is not whole, and what was written up to then
  abbrev pub WritingStops : RunError → D → Type 0
  WritingStops error.Write now = WritesFront now
  WritingStops _ now = ⊥
