-- What a reader and a writer say of themselves, and what calls to them have done.
use Rattle.std.specs.Prelude.{◌≡◌, ℕ, zero, suc, ◌<◌, ◌≤◌, Bool, false, List, [], ◌++◌, length, take, drop}
use Rattle.std.specs.Prelude.{Option, None, Some, IfSome, Result, Ok, Err}

-- what is known of a reader of this type
pub record Reader (D : Type 0) : Type 1 where
  -- the bytes that reads will give from here on, where they are known
  pub remaining : D → Option (List ℕ)
  -- whether the last read answered an error
  pub has_failed : D → Bool
  -- a read with room for this many bytes gives these, or answers an error, and goes from the first state to the second
  pub gives : D → ℕ → Option (List ℕ) → D → Type 0

-- what is known of a writer of this type
pub record Writer (D : Type 0) : Type 1 where
  -- the bytes that it has taken, where they are known
  pub contents : D → Option (List ℕ)
  -- whether the last write answered an error
  pub has_failed : D → Bool
  -- a write of these bytes takes so many of them, or answers an error, and goes from the first state to the second
  pub takes : D → List ℕ → Option ℕ → D → Type 0

-- the bytes that a read gave, the first of its buffer, or none where it answered an error
abbrev pub given : {E : Type 0} → Result ℕ E → List ℕ → Option (List ℕ)
given (Ok n) buf = Some (take n buf)
given (Err e) buf = None

-- how many bytes a write took, or none where it answered an error
abbrev pub taken : {E : Type 0} → Result ℕ E → Option ℕ
taken (Ok n) = Some n
taken (Err e) = None

-- this many reads from `start` on have each given some bytes, and this text in all
pub data HasGiven {D : Type 0} (reader : Reader D) (start : D) : ℕ → List ℕ → D → Type 0 where
  no_read : HasGiven reader start zero [] start
  next_read : {reads room : ℕ} {text piece : List ℕ} {before after : D} →
      HasGiven reader start reads text before →
      reader.gives before room (Some piece) after →
      0 < length piece →
      reader.has_failed after ≡ false →
      HasGiven reader start (suc reads) (text ++ piece) after

-- a write that is given a part of these bytes, the first of them, takes so many or answers an error
pub record TakesPart {D : Type 0} (writer : Writer D) (before : D) (bytes : List ℕ) (taken : Option ℕ) (after : D) : Type 0 where
  pub part : List ℕ
  pub rest : List ℕ
  pub split : bytes ≡ part ++ rest
  pub some : 0 < length part
  pub within : IfSome taken (λ n. n ≤ length part)
  pub call : writer.takes before part taken after

-- the writer as one that is given what it is to write in parts
abbrev pub by_parts : {D : Type 0} → Writer D → Writer D
by_parts writer = record {
  contents = writer.contents;
  has_failed = writer.has_failed;
  takes = λ before bytes taken after. TakesPart writer before bytes taken after;
}

-- the last bytes of this report are left: each write from `start` on was of all that was left, and took some of it
pub data HasTaken {D : Type 0} (writer : Writer D) (start : D) (report : List ℕ) : List ℕ → D → Type 0 where
  no_write : HasTaken writer start report report start
  next_write : {left : List ℕ} {n : ℕ} {before after : D} →
      HasTaken writer start report left before →
      writer.takes before left (Some n) after →
      0 < n →
      n ≤ length left →
      writer.has_failed after ≡ false →
      HasTaken writer start report (drop n left) after
