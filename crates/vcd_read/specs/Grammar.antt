-- A dump as the grammar of docs/CAPTURES.md spells it (after IEEE 1364-2005, clause 18, and wider: every token that
-- begins with `$` is a command, changes of strings are read, times may stand inside blocks, and a code needs no `$var`),
-- and its samples, told by whole time stamps.
use Rattle.std.specs.Prelude.{◌≡◌, ℕ, ◌<◌, ◌⊎◌, Bool, true, false, ◌&&◌, not, List, [], ◌∷◌, ◌++◌}
use Rattle.std.specs.Prelude.{Option, Some, None, codes, if◌then◌else◌}
use Rattle.std.specs.Str.{bytes_eq}
use Rattle.vcd_read.specs.declared.samples.Level.{Level}
use Rattle.vcd_read.specs.declared.samples.Level.TheVariants.{Unknown}
use Rattle.vcd_read.specs.declared.samples.Sample.{Sample}
use Rattle.vcd_read.specs.declared.words.Command.{Command}
use Rattle.vcd_read.specs.declared.words.Command.TheVariants.{Var, EndDefinitions, Changes, End, Other}
use Rattle.vcd_read.specs.Changes.{same_level}
use Rattle.vcd_read.specs.Probes.{Finder, declares, place_of}
use Rattle.vcd_read.specs.Tokens.{Token}
use Rattle.vcd_read.specs.Words.{is_empty, is_end, command_of, level_of, is_vector, level_at, is_code, time_of}

-- ---- definitions

-- a command: its word, what stands in it, and its `$end`
pub record Skipped : Type 0 where
  pub word : Token
  pub body : List Token
  pub close : Token

abbrev pub skipped_tokens : Skipped → List Token
skipped_tokens c = c.word ∷ (c.body ++ (c.close ∷ []))

abbrev pub without_end : List Token → Bool
without_end [] = true
without_end (token ∷ tokens) = not (is_end token.bytes) && without_end tokens

-- It ends at the first `$end` after its word.
abbrev pub EndsOnce : Skipped → Type 0
EndsOnce c = (without_end c.body ≡ true) × (is_end c.close.bytes ≡ true)

pub data Declaration : Type 0 where
  var : (word type size code reference : Token) (more : List Token) (close : Token) → Declaration
  other : (command : Skipped) → Declaration

abbrev pub declaration_tokens : Declaration → List Token
declaration_tokens (var word type size code reference more close) =
    word ∷ (type ∷ (size ∷ (code ∷ (reference ∷ (more ++ (close ∷ []))))))
declaration_tokens (other command) = skipped_tokens command

-- `$var` has four tokens or more, and any other command any tokens; a token is never empty
abbrev pub IsDeclaration : Declaration → Type 0
IsDeclaration (var word type size code reference more close) =
    (command_of word.bytes ≡ Some Var)
    × (without_end (type ∷ (size ∷ (code ∷ (reference ∷ more)))) ≡ true)
    × (is_empty code.bytes ≡ false)
    × (is_end close.bytes ≡ true)
IsDeclaration (other command) = (command_of command.word.bytes ≡ Some Other) × EndsOnce command

-- the code of the first `$var` that is one of the signal, which has one bit where its size is `1`; none: empty
abbrev pub code_for : Finder → List Declaration → List ℕ
code_for probe [] = []
code_for probe (var word type size code reference more close ∷ rest) =
    if declares probe (bytes_eq size.bytes (codes "1")) reference.bytes code.bytes then code.bytes else code_for probe rest
code_for probe (other command ∷ rest) = code_for probe rest

-- ---- changes

-- What stands between two times, each part with the values that it spells: a scalar, vector, real or string change, a
-- command, the begin and the end of a block of changes, or the same time once more.
pub data Entry : Type 0 where
  scalar : (token : Token) (value : ℕ) (code : List ℕ) (level : Level) → Entry
  vector : (token : Token) (digits : List ℕ) (code : Token) → Entry
  real : (token : Token) (text : List ℕ) (code : Token) → Entry
  command : (skipped : Skipped) → Entry
  opens : (token : Token) → Entry
  closes : (token : Token) → Entry
  again : (token : Token) (digits : List ℕ) → Entry

abbrev pub entry_tokens : Entry → List Token
entry_tokens (scalar token value code level) = token ∷ []
entry_tokens (vector token digits code) = token ∷ (code ∷ [])
entry_tokens (real token text code) = token ∷ (code ∷ [])
entry_tokens (command skipped) = skipped_tokens skipped
entry_tokens (opens token) = token ∷ []
entry_tokens (closes token) = token ∷ []
entry_tokens (again token digits) = token ∷ []

-- Whether this is a command that is skipped among the changes.
abbrev pub is_skipped : Option Command → Bool
is_skipped (Some Var) = true
is_skipped (Some EndDefinitions) = true
is_skipped (Some Other) = true
is_skipped _ = false

-- how each entry is spelled, at this time
abbrev pub IsEntry : ℕ → Entry → Type 0
IsEntry time (scalar token value code level) =
    (token.bytes ≡ value ∷ code) × (level_of value ≡ Some level) × (is_code code ≡ true)
IsEntry time (vector token digits code) =
    ((token.bytes ≡ 98 ∷ digits) ⊎ (token.bytes ≡ 66 ∷ digits))
    × (is_vector digits ≡ true)
    × (is_code code.bytes ≡ true)
IsEntry time (real token text code) =
    (((token.bytes ≡ 114 ∷ text) ⊎ (token.bytes ≡ 82 ∷ text))
    ⊎ ((token.bytes ≡ 115 ∷ text) ⊎ (token.bytes ≡ 83 ∷ text)))
    × (is_empty text ≡ false)
    × (is_code code.bytes ≡ true)
IsEntry time (command skipped) = (is_skipped (command_of skipped.word.bytes) ≡ true) × EndsOnce skipped
IsEntry time (opens token) = command_of token.bytes ≡ Some Changes
IsEntry time (closes token) = command_of token.bytes ≡ Some End
IsEntry time (again token digits) = (token.bytes ≡ 35 ∷ digits) × (time_of digits ≡ Some time)

abbrev pub AreEntries : ℕ → List Entry → Type 0
AreEntries time [] = Unit {0}
AreEntries time (entry ∷ entries) = IsEntry time entry × AreEntries time entries

-- Whether a block is open after the entry, where one is open before it or not: blocks don't stand in one another.
abbrev pub opened_by : Bool → Entry → Option Bool
opened_by false (opens token) = Some true
opened_by true (opens token) = None
opened_by false (closes token) = None
opened_by true (closes token) = Some false
opened_by is_open _ = Some is_open

-- a line: how it is found, and its code
pub record Named : Type 0 where
  pub probe : Finder
  pub code : List ℕ

-- the level that the last change of its code gives a line, or the level before: a vector gives that of its own digit
abbrev pub level_by : Named → Level → Entry → Level
level_by line level (scalar token value its to) = if bytes_eq its line.code then to else level
level_by line level (vector token digits its) =
    if bytes_eq its.bytes line.code then level_at (place_of line.probe) digits else level
level_by line level _ = level

abbrev pub level_after : Named → Level → List Entry → Level
level_after line level [] = level
level_after line level (entry ∷ entries) = level_after line (level_by line level entry) entries

-- ---- time stamps

-- a time, as it is spelled, and all that stands before the next later time
pub record Stamp : Type 0 where
  pub mark : Token
  pub digits : List ℕ
  pub time : ℕ
  pub entries : List Entry

abbrev pub entries_tokens : List Entry → List Token
entries_tokens [] = []
entries_tokens (entry ∷ entries) = entry_tokens entry ++ entries_tokens entries

abbrev pub stamps_tokens : List Stamp → List Token
stamps_tokens [] = []
stamps_tokens (stamp ∷ stamps) = stamp.mark ∷ (entries_tokens stamp.entries ++ stamps_tokens stamps)

-- Each stamp is later than the one before.
abbrev pub AreStamps : ℕ → List Stamp → Type 0
AreStamps time [] = Unit {0}
AreStamps time (stamp ∷ stamps) =
    (stamp.mark.bytes ≡ 35 ∷ stamp.digits)
    × (time_of stamp.digits ≡ Some stamp.time)
    × (time < stamp.time)
    × AreEntries stamp.time stamp.entries
    × AreStamps stamp.time stamps

-- whether a block is open after all these, or they break the rule of blocks
abbrev pub open_after : Option Bool → List Entry → Option Bool
open_after None entries = None
open_after (Some is_open) [] = Some is_open
open_after (Some is_open) (entry ∷ entries) = open_after (opened_by is_open entry) entries

abbrev pub open_after_stamps : Option Bool → List Stamp → Option Bool
open_after_stamps is_open [] = is_open
open_after_stamps is_open (stamp ∷ stamps) = open_after_stamps (open_after is_open stamp.entries) stamps

-- A stamp at which one of the two levels differs from before has a sample.
abbrev pub sample_at : ℕ → Level → Level → Level → Level → List Sample
sample_at time scl_before sda_before scl sda =
    if same_level scl_before scl && same_level sda_before sda then []
    else record { time = time; scl = scl; sda = sda } ∷ []

-- the samples of the stamps, for the two lines and their levels before
abbrev pub stamp_samples : (scl_line sda_line : Named) → Level → Level → List Stamp → List Sample
stamp_samples scl_line sda_line scl sda [] = []
stamp_samples scl_line sda_line scl sda (stamp ∷ stamps) =
    let scl_now = level_after scl_line scl stamp.entries in
    let sda_now = level_after sda_line sda stamp.entries in
    sample_at stamp.time scl sda scl_now sda_now ++ stamp_samples scl_line sda_line scl_now sda_now stamps

-- ---- the dump

-- first: what stands before the first time that is later than 0
pub record Dump : Type 0 where
  pub declarations : List Declaration
  pub definitions_end : Skipped
  pub first : List Entry
  pub stamps : List Stamp

abbrev pub declarations_tokens : List Declaration → List Token
declarations_tokens [] = []
declarations_tokens (declaration ∷ declarations) = declaration_tokens declaration ++ declarations_tokens declarations

abbrev pub AreDeclarations : List Declaration → Type 0
AreDeclarations [] = Unit {0}
AreDeclarations (declaration ∷ declarations) = IsDeclaration declaration × AreDeclarations declarations

abbrev pub dump_tokens : Dump → List Token
dump_tokens d =
    declarations_tokens d.declarations
    ++ (skipped_tokens d.definitions_end ++ (entries_tokens d.first ++ stamps_tokens d.stamps))

-- The dump has both signals, and its parts are spelled as they should.
pub record IsDump (scl sda : Finder) (d : Dump) : Type 0 where
  pub declarations : AreDeclarations d.declarations
  pub definitions_end : (command_of d.definitions_end.word.bytes ≡ Some EndDefinitions) × EndsOnce d.definitions_end
  pub scl_named : is_empty (code_for scl d.declarations) ≡ false
  pub sda_named : is_empty (code_for sda d.declarations) ≡ false
  pub first : AreEntries 0 d.first
  pub stamps : AreStamps 0 d.stamps
  pub blocks_end : open_after_stamps (open_after (Some false) d.first) d.stamps ≡ Some false

-- the line that is found so
abbrev pub line_for : Finder → List Declaration → Named
line_for probe declarations = record { probe = probe; code = code_for probe declarations }

-- the samples of the dump: both levels are unknown before it
abbrev pub dump_samples : Finder → Finder → Dump → List Sample
dump_samples scl sda d =
    let scl_line = line_for scl d.declarations in
    let sda_line = line_for sda d.declarations in
    let scl_first = level_after scl_line Unknown d.first in
    let sda_first = level_after sda_line Unknown d.first in
    sample_at 0 Unknown Unknown scl_first sda_first ++ stamp_samples scl_line sda_line scl_first sda_first d.stamps

-- Definitions alone are a dump too, of which nothing was recorded.
pub record IsDefinitions (scl sda : Finder) (declarations : List Declaration) : Type 0 where
  pub are : AreDeclarations declarations
  pub scl_named : is_empty (code_for scl declarations) ≡ false
  pub sda_named : is_empty (code_for sda declarations) ≡ false

-- The tokens are spelled as a dump that has these samples.
abbrev pub Spells : (scl sda : Finder) → List Token → List Sample → Type 0
Spells scl sda tokens samples =
    ((d : Dump) × IsDump scl sda d × (tokens ≡ dump_tokens d) × (samples ≡ dump_samples scl sda d))
    ⊎ ((declarations : List Declaration)
    × IsDefinitions scl sda declarations
    × (tokens ≡ declarations_tokens declarations)
    × (samples ≡ []))
