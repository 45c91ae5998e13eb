-- A dump that comes in pieces. What is said here is byte by byte, as a reader goes; the clauses of the public calls say
-- by whole texts what it comes to.
use Rattle.std.specs.Prelude.{◌≡◌, ℕ, ◌+◌, ◌≤◌, List, [], ◌∷◌, ◌++◌, Result, Ok, Err}
use Rattle.std.specs.Prelude.{if◌then◌else◌, option_to_list, vec_len, vec_capacity, MatchResult}
use Rattle.vcd_read.specs.declared.errors.Refusal.{Refusal}
use Rattle.vcd_read.specs.declared.samples.Sample.{Sample}
use Rattle.vcd_read.specs.declared.scanner.Scanner.{Scanner}
use Rattle.vcd_read.specs.Changes.{Step}
use Rattle.vcd_read.specs.Dumps.{step, with_last, at_end}
use Rattle.vcd_read.specs.Probes.{Finder}
use Rattle.vcd_read.specs.States.{State, state_at_first}
use Rattle.vcd_read.specs.Tokens.{is_white, line_after}
use Rattle.vcd_read.specs.Views.{state_of, HasRoom}
use Rattle.vcd_read.specs.Words.{is_empty}

-- line: that of the next byte; held: the token that has not ended; state and samples: what the tokens before it have
-- said
pub record Kept : Type 0 where
  pub line : ℕ
  pub held : List ℕ
  pub state : State
  pub samples : List Sample

-- a refusal, and the samples of the tokens before it
pub record Refused : Type 0 where
  pub refusal : Refusal
  pub samples : List Sample

abbrev pub Scan : Type 0
Scan = Result Kept Refused

-- before the first byte
abbrev pub kept_at_first : Finder → Finder → Kept
kept_at_first scl sda = record { line = 1; held = []; state = state_at_first scl sda; samples = [] }

abbrev pub kept_after : Kept → Step → Scan
kept_after k (Ok p) = Ok (record k { held = []; state = p.0; samples = k.samples ++ option_to_list p.1 })
kept_after k (Err refusal) = Err (record { refusal = refusal; samples = k.samples })

-- the token that is held, if any, has come to its end
abbrev pub token_ended : Kept → Scan
token_ended k = if is_empty k.held then Ok k else kept_after k (step k.state k.held k.line)

-- with more bytes held
abbrev pub with_held : List ℕ → Kept → Kept
with_held bytes k = record k { held = k.held ++ bytes }

abbrev pub after_white : ℕ → Scan → Scan
after_white byte (Ok k) = Ok (record k { line = line_after k.line byte })
after_white byte (Err refused) = Err refused

abbrev pub byte_read : Kept → ℕ → Scan
byte_read k byte =
    if is_white byte then after_white byte (token_ended k) else Ok (record k { held = k.held ++ byte ∷ [] })

abbrev pub go_on : Scan → (Kept → Scan) → Scan
go_on (Ok k) rest = rest k
go_on (Err refused) rest = Err refused

abbrev pub bytes_read : Kept → List ℕ → Scan
bytes_read k [] = Ok k
bytes_read k (byte ∷ bytes) = go_on (byte_read k byte) (λ next. bytes_read next bytes)

-- the samples at the end of the text, where the last token ends
abbrev pub ended_by : Scan → Result (List Sample) Refusal
ended_by (Ok k) = with_last k.samples (at_end k.state)
ended_by (Err refused) = Err refused.refusal

abbrev pub samples_at_end : Kept → Result (List Sample) Refusal
samples_at_end k = ended_by (token_ended k)

abbrev pub kept_of : Scanner → Kept
kept_of s = record { line = s.line; held = s.held.items; state = state_of s.dump; samples = s.samples.items }

-- The call returned what the definition gives, with this kept: all of it, or the samples before a refusal.
abbrev pub Scans : {A : Type 0} → Result A Refusal → Scan → Kept → Type 0
Scans result given k =
    MatchResult result (λ _. given ≡ Ok k) (λ refusal. given ≡ Err (record { refusal = refusal; samples = k.samples }))

-- what is held can grow by so many bytes, and end there
abbrev pub RoomForToken : ℕ → Scanner → Type 0
RoomForToken bytes s = (vec_len s.held + bytes ≤ vec_capacity s.held) × HasRoom (vec_len s.held + bytes) s.dump

abbrev pub RoomForSamples : ℕ → Scanner → Type 0
RoomForSamples number s = vec_len s.samples + number ≤ vec_capacity s.samples
