-- Why a dump is refused, told by the dumps that are accepted: which token is wrong, and which signal is missing.
use Rattle.std.specs.Prelude.{◌≡◌, ℕ, ◌⊎◌, true, false, List, [], ◌∷◌, ◌++◌, Some, Result, Err}
use Rattle.vcd_read.specs.declared.errors.Refusal.{Refusal}
use Rattle.vcd_read.specs.declared.errors.Refusal.TheVariants.{NoSignal, Unended}
use Rattle.vcd_read.specs.declared.samples.Sample.{Sample}
use Rattle.run_errors.specs.declared.dumps.Signal.{Signal}
use Rattle.run_errors.specs.declared.dumps.Signal.TheVariants.{Scl, Sda}
use Rattle.vcd_read.specs.declared.words.Command.TheVariants.{EndDefinitions}
use Rattle.vcd_read.specs.Grammar.{Skipped, skipped_tokens, EndsOnce, Declaration, code_for, declarations_tokens, AreDeclarations, Spells}
use Rattle.vcd_read.specs.Probes.{Finder, word_of}
use Rattle.vcd_read.specs.Tokens.{Token, tokens_of, has_white}
use Rattle.vcd_read.specs.Words.{is_empty, is_end, command_of, time_of}

-- ---- the first wrong token

-- what a `$var` can have as its code or reference: a token other than `$end`
pub record IsInVar (word : List ℕ) : Type 0 where
  pub some : is_empty word ≡ false
  pub one_token : has_white word ≡ false
  pub no_end : is_end word ≡ false

-- Some `$var` can be one of this signal.
abbrev pub CanBe : Finder → Type 0
CanBe probe = IsInVar (word_of probe)

-- Some text that the grammar spells begins with these tokens.
pub record Begins (scl sda : Finder) (tokens : List Token) : Type 0 where
  pub text : List ℕ
  pub samples : List Sample
  pub spelled : Spells scl sda (tokens_of 1 text) samples
  pub more : List Token
  pub begun : tokens_of 1 text ≡ tokens ++ more

-- Some accepted dump begins with the tokens before this one, and none with these and this one.
pub record FirstWrong (scl sda : Finder) (tokens : List Token) (token : Token) : Type 0 where
  pub before : List Token
  pub rest : List Token
  pub stands : tokens ≡ before ++ (token ∷ rest)
  pub right : Begins scl sda before
  pub wrong : Begins scl sda (before ++ (token ∷ [])) → ⊥

-- `#` and a time
pub record IsTime (bytes : List ℕ) : Type 0 where
  pub digits : List ℕ
  pub time : ℕ
  pub spelled : bytes ≡ 35 ∷ digits
  pub is : time_of digits ≡ Some time

-- It is a time, where some accepted dump goes on with another time.
pub record IsOtherTime (scl sda : Finder) (before : List Token) (token : Token) : Type 0 where
  pub is : IsTime token.bytes
  pub other : Token
  pub other_is : IsTime other.bytes
  pub right : Begins scl sda (before ++ (other ∷ []))

-- The first wrong token stands on this line, and is no time where another time is right; nor is it `$enddefinitions`,
-- which is wrong where a signal is missing: that is told at its `$end`.
pub record HasBadToken (scl sda : Finder) (tokens : List Token) (line : ℕ) : Type 0 where
  pub token : Token
  pub first : FirstWrong scl sda tokens token
  pub on : token.line ≡ line
  pub no_time : IsOtherTime scl sda first.before token → ⊥
  pub no_end : command_of token.bytes ≡ Some EndDefinitions → ⊥

-- The first wrong token stands on this line, and is a time where another time is right.
pub record HasTimeBack (scl sda : Finder) (tokens : List Token) (line : ℕ) : Type 0 where
  pub token : Token
  pub first : FirstWrong scl sda tokens token
  pub on : token.line ≡ line
  pub time : IsOtherTime scl sda first.before token

-- The refusal comes later: a signal is missing, or the text ends inside something.
abbrev pub IsLate : Result (List Sample) Refusal → Type 0
IsLate answer = ((signal : Signal) × (answer ≡ Err (NoSignal signal))) ⊎ ((line : ℕ) × (answer ≡ Err (Unended line)))

-- ---- the missing signal

-- The declarations give this signal no code. Where both have none it is SCL.
abbrev pub AreWithout : (scl sda : Finder) → List Declaration → Signal → Type 0
AreWithout scl sda declarations Scl = is_empty (code_for scl declarations) ≡ true
AreWithout scl sda declarations Sda = (is_empty (code_for scl declarations) ≡ false) × (is_empty (code_for sda declarations) ≡ true)

-- the end of the definitions: that of the text, or `$enddefinitions .. $end` and anything after it
abbrev pub EndsDefinitions : List Token → Type 0
EndsDefinitions tokens =
    (tokens ≡ [])
    ⊎ ((command : Skipped)
    × (rest : List Token)
    × (command_of command.word.bytes ≡ Some EndDefinitions)
    × EndsOnce command
    × (tokens ≡ skipped_tokens command ++ rest))

-- The definitions end, and this signal has no code.
pub record Lacks (scl sda : Finder) (tokens : List Token) (signal : Signal) : Type 0 where
  pub declarations : List Declaration
  pub rest : List Token
  pub spelled : tokens ≡ declarations_tokens declarations ++ rest
  pub are : AreDeclarations declarations
  pub ended : EndsDefinitions rest
  pub without : AreWithout scl sda declarations signal
