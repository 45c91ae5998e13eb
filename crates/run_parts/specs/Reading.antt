-- How the reading of a whole input ends, which takes at most `limit` reads.
use Rattle.std.specs.Prelude.{◌≡◌, ℕ, ◌<◌, ◌≤◌, ◌⊎◌, true, false, List, [], Some, None}
use Rattle.std.specs.Io.KnownBytes.{Consumes, IsAtEnd}
use Rattle.run_parts.specs.Devices.{Reader, HasGiven}
use Rattle.run_parts.specs.declared.errors.RunError.{RunError}
use Rattle.run_parts.specs.declared.errors.RunError.TheVariants as error

module _ {D : Type 0} (reader : Reader D) (limit : ℕ) (start : D) where
  -- fewer than `limit` reads gave the text, and one more, with room for bytes, gave none: that is the end
  pub record ReadsAll (text : List ℕ) (now : D) : Type 0 where
    pub reads : ℕ
    pub few : reads < limit
    pub last : D
    pub read : HasGiven reader start reads text last
    pub room : ℕ
    pub has_room : 0 < room
    pub end : reader.gives last room (Some []) now
    pub sound : reader.has_failed now ≡ false
    pub consumed : Consumes (reader.remaining start) (reader.remaining now) text
    pub at_end : IsAtEnd (reader.remaining now)

  -- fewer than `limit` reads gave bytes, and one more answered an error
  pub record ReadFails (now : D) : Type 0 where
    pub reads : ℕ
    pub few : reads < limit
    pub text : List ℕ
    pub last : D
    pub read : HasGiven reader start reads text last
    pub room : ℕ
    pub fault : reader.gives last room None now
    pub failed : reader.has_failed now ≡ true

  -- `limit` reads gave bytes, and met no end
  pub record MeetsNoEnd (now : D) : Type 0 where
    pub text : List ℕ
    pub read : HasGiven reader start limit text now

  -- at most `limit` reads gave bytes, and none has failed
  pub record IsReading (now : D) : Type 0 where
    pub reads : ℕ
    pub few : reads ≤ limit
    pub text : List ℕ
    pub read : HasGiven reader start reads text now

  -- why the text is not there, and what was read up to then
  abbrev pub ReadingStops : RunError → D → Type 0
  ReadingStops error.Read now = ReadFails now ⊎ MeetsNoEnd now
  ReadingStops error.NoMemory now = IsReading now
  ReadingStops _ now = ⊥
