-- The grammar of plan texts: which tokens spell which plan.
use Rattle.std.specs.Prelude.{◌≡◌, ℕ, ◌<◌, List, [], ◌∷◌, None, codes}
use Rattle.lexer.specs.Lexemes.{Alphabet, no_dots, dots_after, text_end}
use Rattle.message_tree.specs.declared.counts.Count.{Count}
use Rattle.message_tree.specs.Trees.{FrameTree, write, read, PayloadTree, byte, last, TailTree, stop, again}
use Rattle.plan_core.specs.Contents.{Contents, empty}
use Rattle.plan_core.specs.Names.{IsName}
use Rattle.plan_core.specs.Building.{message_refusal, with_message, controller_refusal, with_controller}
use Rattle.plan_core.specs.Building.{interrupt_refusal, with_interrupt, never_refusal, with_never}
use Rattle.plan_text.specs.declared.symbols.Keyword.TheVariants as keywords
use Rattle.plan_text.specs.declared.versions.Version.{Version}
use Rattle.plan_text.specs.declared.versions.Version.TheVariants.{One, Two}
use Rattle.plan_text.specs.Symbols.{address_word, pattern_word, interrupt_word}
use Rattle.plan_text.specs.Tokens.{Token, keyword, word, semicolon, Tokens, tokens_of}
use Rattle.plan_text.specs.Tokens as tokens
use Rattle.plan_text.specs.Words.{WritesCount}

-- tokens from one place of a text up to another
abbrev pub Phrase : Type 1
Phrase = Tokens → Tokens → Type 0

-- one token, on whatever line
abbrev pub one : Token → Phrase
one token from to = (line : ℕ) × (from ≡ tokens.next token line to)

-- first these, and then those
infixr 20 ◌▸◌
abbrev pub ◌▸◌ : Phrase → Phrase → Phrase
(first ▸ second) from to = (between : Tokens) × first from between × second between to

-- a token that is this name
abbrev pub SpellsName : List ℕ → Phrase
SpellsName name from to = one (word name) from to × IsName name

abbrev pub SpellsCount : Count → Phrase
SpellsCount count from to = (bytes : List ℕ) × one (word bytes) from to × WritesCount bytes count

-- a message's frame, with what follows each answer
abbrev mutual
  pub SpellsFrame : FrameTree → Phrase
  SpellsFrame (write address acked refused) =
      one (keyword keywords.Write) ▸ one (word (address_word address)) ▸ SpellsPayload acked ▸ one (keyword keywords.Else) ▸ SpellsTail refused
  SpellsFrame (read address count after refused) =
      one (keyword keywords.Read) ▸ one (word (address_word address)) ▸ SpellsCount count ▸ SpellsTail after ▸ one (keyword keywords.Else) ▸ SpellsTail refused

  pub SpellsPayload : PayloadTree → Phrase
  SpellsPayload (byte bits acked refused) =
      one (word (pattern_word bits)) ▸ SpellsPayload acked ▸ one (keyword keywords.Else) ▸ SpellsTail refused
  SpellsPayload (last tail) = SpellsTail tail

  pub SpellsTail : TailTree → Phrase
  SpellsTail stop = one (keyword keywords.Stop)
  SpellsTail (again frame) = one (keyword keywords.Again) ▸ SpellsFrame frame

abbrev pub SpellsNames : List (List ℕ) → Phrase
SpellsNames [] from to = to ≡ from
SpellsNames (name ∷ names) from to = (SpellsName name ▸ SpellsNames names) from to

-- an item of a plan, as it is written
pub data Item : Type 0 where
  message : (name : List ℕ) (frame : FrameTree) → Item
  controller : (name : List ℕ) (messages : List (List ℕ)) → Item
  interrupt : (name : List ℕ) (address : ℕ) → Item
  never_both : (first second : List ℕ) → Item

abbrev pub SpellsItem : Version → Item → Phrase
SpellsItem version (message name frame) =
    one (keyword keywords.Message) ▸ SpellsName name ▸ SpellsFrame frame ▸ one semicolon
SpellsItem version (controller name messages) =
    one (keyword keywords.Controller) ▸ SpellsName name ▸ SpellsNames messages ▸ one semicolon
SpellsItem version (interrupt name address) =
    one (keyword keywords.Interrupt) ▸ SpellsName name ▸ one (word (interrupt_word address)) ▸ one semicolon
SpellsItem Two (never_both first second) =
    one (keyword keywords.Never) ▸ SpellsName first ▸ SpellsName second ▸ one semicolon
SpellsItem One (never_both first second) = λ from to. ⊥

-- the plan has room for the item, and its names are new or known as they must be
abbrev pub Fits : Contents → Item → Type 0
Fits plan (message name frame) = message_refusal plan name frame ≡ None
Fits plan (controller name messages) = controller_refusal plan name messages ≡ None
-- (an address has seven bits)
Fits plan (interrupt name address) = (interrupt_refusal plan name ≡ None) × (address < 128)
Fits plan (never_both first second) = never_refusal plan first second ≡ None

-- the plan with the item
abbrev pub with_item : Contents → Item → Contents
with_item plan (message name frame) = with_message plan name frame
with_item plan (controller name messages) = with_controller plan name messages
with_item plan (interrupt name address) = with_interrupt plan name address
with_item plan (never_both first second) = with_never plan first second

-- these items, one after the other, from one place with one plan up to another place with another plan
abbrev pub SpellsItems : Version → List Item → Contents → Tokens → Contents → Tokens → Type 0
SpellsItems version [] plan from whole to = (whole ≡ plan) × (to ≡ from)
SpellsItems version (item ∷ items) plan from whole to =
    Fits plan item × ((between : Tokens) × SpellsItem version item from between ×
    SpellsItems version items (with_item plan item) between whole to)

abbrev pub version_word : Version → List ℕ
version_word One = codes "1"
version_word Two = codes "2"

-- `.` is a part of words after the first two tokens of a text of the second version
abbrev pub dots_of : Version → Alphabet
dots_of One = no_dots
dots_of Two = dots_after 2

-- the text begins with `plan` and this version, and these tokens follow
abbrev pub Begins : List ℕ → Version → Tokens → Type 0
Begins text version to =
    (one (keyword keywords.Plan) ▸ one (word (version_word version))) (tokens_of (dots_of version) 1 text) to

-- the text begins so, then has items that make up this plan, and then goes on with these tokens
pub record SpellsFront (text : List ℕ) (version : Version) (plan : Contents) (to : Tokens) : Type 0 where
  pub items : List Item
  pub start : Tokens
  pub begins : Begins text version start
  pub spelled : SpellsItems version items empty start plan to

-- the text spells this plan: it begins so, has items that make up the plan, and ends
pub record Spells (text : List ℕ) (plan : Contents) : Type 0 where
  pub version : Version
  pub line : ℕ
  pub whole : SpellsFront text version plan (tokens.last text_end line)
