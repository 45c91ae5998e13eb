-- What the functions that make a list say of it. Only private contracts and proofs use this.
use Rattle.std.specs.Prelude.{◌≡◌, ℕ, ◌≤◌, true, false, List, [], ◌∷◌, ◌++◌, length, Option, Some, None, Ok}
use Rattle.brief_tokens.specs.Reading.{left}
use Rattle.brief_tokens.specs.Tokens.{Tokens, last}
use Rattle.brief_tokens.specs.declared.tokens.Tokens.{Tokens as TokensRead}
use Rattle.lexer.specs.Lexemes.{text_end}
use Rattle.board_files.specs.Files.{Files, is_known}
use Rattle.board_files.specs.Given.{listed, texts_listed, stop_of}
use Rattle.board_files.specs.Lists as spec
use Rattle.board_files.specs.declared.lists.Inside.{Inside}
use Rattle.board_files.specs.declared.lists.Inside.TheVariants as inside
use Rattle.board_files.specs.declared.lists.ListMade.{ListMade}
use Rattle.board_files.specs.declared.lists.Listed.{Listed}
use Rattle.board_files.specs.declared.lists.Stopped.{Stopped}
use Rattle.board_files.specs.declared.lists.Stopped.TheVariants as stopped
use Rattle.board_files.specs.declared.lists.Why.{Why}
use Rattle.board_files.specs.declared.openers.FileId.{FileId}

-- texts were added, of which this holds with the files that are known then
pub record Added (Holds : List spec.Listed → List FileId → Type 0) (before now : ListMade) : Type 0 where
  pub texts : List Listed
  pub kept : now.texts.items ≡ before.texts.items ++ texts
  pub holds : Holds (texts_listed texts) now.known.items
  pub grown : length before.known.items ≤ length now.known.items

-- the tokens at which the files of a head begin, where it may name some
abbrev pub files_left : Option TokensRead → Tokens
files_left (Some tokens) = left tokens
files_left None = last text_end 1

-- this holds of where it stopped, but for out of memory
abbrev pub IsStopped : Stopped → (spec.Stop → Type 0) → Type 0
IsStopped (stopped.At text why) Holds = Holds (stop_of (listed text) why)
IsStopped stopped.NoMemory Holds = Unit {0}

-- the same within this text
abbrev pub IsInside : spec.Listed → Inside → (spec.Stop → Type 0) → Type 0
IsInside text (inside.Here why) Holds = Holds (stop_of text why)
IsInside text (inside.There stopped) Holds = IsStopped stopped Holds

module _ {D : Type 0} (files : Files D) where
  -- a text that was given stands already, or is added
  pub data AddsGiven : (text : spec.Given) (known : List FileId) (before : D) (texts : List spec.Listed) (known_now : List FileId) (after : D) → Type 0 where
    stood : {text : spec.Given} {known : List FileId} {state : D} → is_known text.id known ≡ true → AddsGiven text known state [] known state
    added : {text : spec.Given} {known known_now : List FileId} {before after : D} {texts : List spec.Listed} →
        is_known text.id known ≡ false →
        spec.AddsText files text.listed text.folder (known ++ text.id ∷ []) before texts known_now after →
        AddsGiven text known before texts known_now after

  -- it does not, and stops
  pub record StopsGiven (text : spec.Given) (known : List FileId) (before : D) (stop : spec.Stop) (after : D) : Type 0 where
    pub new : is_known text.id known ≡ false
    pub stops : spec.StopsText files text.listed text.folder (known ++ text.id ∷ []) before stop after

  -- what the head of a text names
  pub data AddsHead : (text : spec.Listed) (folder : List ℕ) (known : List FileId) (before : D) (texts : List spec.Listed) (known_now : List FileId) (after : D) → Type 0 where
    named : {text : spec.Listed} {folder : List ℕ} {head : Tokens} {known known_now : List FileId} {before after : D} {texts : List spec.Listed} →
        spec.files_of text.text ≡ Ok head →
        spec.Lists files folder head known before texts known_now after →
        AddsHead text folder known before texts known_now after

  -- some of the files that a head names were passed, which added these texts: what the others add comes after these, and what stops
  -- there stops all
  pub record Past (folder : List ℕ) (from : Tokens) (known : List FileId) (before : D) (added : List spec.Listed)
      (here : Tokens) (known_now : List FileId) (now : D) : Type 0 where
    pub lists : (texts : List spec.Listed) (last : List FileId) (after : D) →
        spec.Lists files folder here known_now now texts last after → spec.Lists files folder from known before (added ++ texts) last after
    pub stops : (text : spec.Listed) (stop : spec.Stop) (after : D) →
        spec.Stops files text folder here known_now now stop after → spec.Stops files text folder from known before stop after

  -- the same of texts that were given, where these are left
  pub record PastGiven (given : List spec.Given) (known : List FileId) (before : D) (added : List spec.Listed) (rest : List spec.Given)
      (known_now : List FileId) (now : D) : Type 0 where
    pub lists : (texts : List spec.Listed) (after : D) →
        spec.ListsAll files rest known_now now texts after → spec.ListsAll files given known before (added ++ texts) after
    pub stops : (stop : spec.Stop) (after : D) →
        spec.StopsAll files rest known_now now stop after → spec.StopsAll files given known before stop after

  -- the same of what was made so far
  pub record Passing (folder : List ℕ) (from : Tokens) (first : ListMade) (before : D) (here : Tokens) (made : ListMade) (now : D) : Type 0 where
    pub texts : List Listed
    pub kept : made.texts.items ≡ first.texts.items ++ texts
    pub grown : length first.known.items ≤ length made.known.items
    pub past : Past folder from first.known.items before (texts_listed texts) here made.known.items now
