-- How far the writing of a text in parts has come. Only private contracts and proofs use this.
use Rattle.std.specs.Prelude.{◌≡◌, ℕ, List, ◌++◌}
use Rattle.std.specs.Io.KnownBytes.{Appends}
use Rattle.run_parts.specs.Devices.{Writer, by_parts, HasTaken}

-- the writer took the front of the text, in parts, and this is left of it
pub record IsLeft {D : Type 0} (writer : Writer D) (start : D) (text left : List ℕ) (now : D) : Type 0 where
  pub front : List ℕ
  pub split : text ≡ front ++ left
  pub written : HasTaken (by_parts writer) start text left now
  pub appended : Appends (writer.contents start) (writer.contents now) front
