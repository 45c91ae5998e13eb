-- The grammar of briefs: which tokens spell which tree, whatever its names stand for.
use Rattle.std.specs.Prelude.{◌≡◌, ◌⊎◌, ℕ, true, false, List, [], ◌∷◌, Option, Some, None, Ok}
use Rattle.message_tree.specs.declared.bits.Address.{Address}
use Rattle.message_tree.specs.declared.bits.Pattern.{Pattern}
use Rattle.message_tree.specs.declared.counts.Count.{Count}
use Rattle.plan_core.specs.Names.{IsName}
use Rattle.lexer.specs.Lexemes.{text_end}
use Rattle.plan_text.specs.Words.{WritesCount}
use Rattle.brief_tokens.specs.declared.symbols.Keyword.TheVariants as keywords
use Rattle.brief_tokens.specs.declared.symbols.Sign.TheVariants as signs
use Rattle.brief_text.specs.declared.syntax.Lengths.{Lengths}
use Rattle.lexer.specs.declared.lexemes.Letters.{Letters}
use Rattle.brief_tokens.specs.Heads.{opened}
use Rattle.brief_tokens.specs.Tokens.{Token, keyword, word, sign, Tokens}
use Rattle.brief_tokens.specs.Tokens as tokens
use Rattle.brief_text.specs.Trees.{Said, spelled, named, Times, times, ranged, BriefFrame, write_to, read_from, BriefBytes}
use Rattle.brief_text.specs.Trees.{data_byte, made_byte, no_more, BriefTail, stop_here, go_on, Made, header, packet_code, checksum, chosen, Choice, span, all_but}
use Rattle.brief_text.specs.Trees.{BriefItem, device, byte, device_group, message, controller, extend, interrupt, never_both}
use Rattle.brief_text.specs.Choices.{is_choice, numbers}
use Rattle.brief_text.specs.Words.{known_byte_by, address_by, data_by, any_byte, repetition_by, so_often, from_to, is_countable, is_range, side_by}

-- tokens from one place of a text up to another
abbrev pub Phrase : Type 1
Phrase = Tokens → Tokens → Type 0

-- one token, on whatever line
abbrev pub one : Token → Phrase
one token from to = (line : ℕ) × (from ≡ tokens.next token line to)

-- no token
abbrev pub nothing : Phrase
nothing from to = to ≡ from

-- first these, and then those; these, or those
infixr 20 ◌▸◌
abbrev pub ◌▸◌ : Phrase → Phrase → Phrase
(first ▸ second) from to = (between : Tokens) × first from between × second between to

infixr 10 ◌or◌
abbrev pub ◌or◌ : Phrase → Phrase → Phrase
(first or second) from to = first from to ⊎ second from to

-- ---- words

abbrev pub SpellsName : List ℕ → Phrase
SpellsName name from to = one (word name) from to × IsName name

-- a word that is read as this
abbrev pub SpellsAs : {A : Type 0} → (List ℕ → Option A) → A → Phrase
SpellsAs read value from to = (bytes : List ℕ) × one (word bytes) from to × (read bytes ≡ Some value)

abbrev pub SpellsTo : Said Address → Phrase
SpellsTo (spelled address) from to = SpellsAs address_by address from to
SpellsTo (named name) from to = SpellsName name from to × (address_by name ≡ None)

abbrev pub SpellsData : Said Pattern → Phrase
SpellsData (spelled bits) from to = (SpellsAs data_by bits or (λ from to. one (keyword keywords.Any) from to × (bits ≡ any_byte))) from to
SpellsData (named name) from to = SpellsName name from to × (data_by name ≡ None)

abbrev pub SpellsCount : Count → Phrase
SpellsCount count from to = (bytes : List ℕ) × one (word bytes) from to × WritesCount bytes count

-- what follows `any but`
abbrev pub SpellsExcepted : ℕ → ℕ → Phrase
SpellsExcepted least greatest from to = one (tokens.span least greatest) from to ⊎ (SpellsAs known_byte_by least from to × (greatest ≡ least))

abbrev pub SpellsValues : Choice → Phrase
SpellsValues (span least greatest) = one (tokens.span least greatest)
SpellsValues (all_but least greatest) = one (keyword keywords.Any) ▸ one (keyword keywords.But) ▸ SpellsExcepted least greatest

-- a choice, in a message with the numbers of its blocks
abbrev pub SpellsChoice : Option Lengths → Choice → Phrase
SpellsChoice range choice from to = SpellsValues choice from to × (is_choice choice ≡ true) × (range ≡ Some (numbers choice))

-- a byte that follows from others, or is a choice
abbrev pub SpellsMade : Option Lengths → Made → Phrase
SpellsMade range (header false to) = one (keyword keywords.Wr) ▸ one (sign signs.Open) ▸ SpellsTo to ▸ one (sign signs.Close)
SpellsMade range (header true to) = one (keyword keywords.Rd) ▸ one (sign signs.Open) ▸ SpellsTo to ▸ one (sign signs.Close)
SpellsMade range packet_code = one (keyword keywords.Pec)
SpellsMade range checksum = one (keyword keywords.Sum)
SpellsMade range (chosen choice) = SpellsChoice range choice

-- how often a byte stands, in a message with this range
abbrev pub SpellsOften : Option Lengths → Times → Phrase
SpellsOften range (times n) from to =
    (nothing from to × (n ≡ 1)) ⊎ ((one (sign signs.Star) ▸ SpellsAs repetition_by (so_often n)) from to × (is_countable n ≡ true))
SpellsOften (Some range) ranged from to =
    (one (sign signs.Star) ▸ SpellsAs repetition_by (from_to range.least range.greatest)) from to
    × (is_range range.least range.greatest ≡ true)
SpellsOften None ranged from to = ⊥

-- ---- messages

abbrev mutual
  pub SpellsFrame : Option Lengths → BriefFrame → Phrase
  SpellsFrame range (write_to to refused acked) =
      one (keyword keywords.Write) ▸ SpellsTo to ▸ SpellsRefused range refused ▸ SpellsBytes range acked
  SpellsFrame range (read_from to count refused after) =
      one (keyword keywords.Read) ▸ SpellsTo to ▸ SpellsCount count ▸ SpellsRefused range refused ▸ SpellsNext range after

  pub SpellsBytes : Option Lengths → BriefBytes → Phrase
  SpellsBytes range (data_byte bits often refused acked) =
      SpellsData bits ▸ SpellsOften range often ▸ SpellsRefused range refused ▸ SpellsBytes range acked
  SpellsBytes range (made_byte made refused acked) = SpellsMade range made ▸ SpellsRefused range refused ▸ SpellsBytes range acked
  SpellsBytes range (no_more tail) = SpellsNext range tail

  -- what follows the last byte
  pub SpellsNext : Option Lengths → BriefTail → Phrase
  SpellsNext range stop_here = nothing
  SpellsNext range (go_on frame) = SpellsFrame range frame

  -- what follows where there is no acknowledge
  pub SpellsRefused : Option Lengths → BriefTail → Phrase
  SpellsRefused range stop_here = nothing or (one (keyword keywords.Else) ▸ one (keyword keywords.Stop))
  SpellsRefused range (go_on frame) =
      one (keyword keywords.Else) ▸ one (sign signs.Open) ▸ SpellsFrame range frame ▸ one (sign signs.Close)

-- ---- items

abbrev pub end : Phrase
end = one (sign signs.Semicolon)

abbrev pub SpellsNames : List (List ℕ) → Phrase
SpellsNames [] = nothing
SpellsNames (name ∷ names) = SpellsName name ▸ SpellsNames names

-- one at least
abbrev pub SpellsSome : List (List ℕ) → Phrase
SpellsSome [] from to = ⊥
SpellsSome (name ∷ names) from to = (SpellsName name ▸ SpellsNames names) from to

-- an item of a text with these letters
abbrev pub SpellsItem : Letters → BriefItem → Phrase
SpellsItem letters (device name address) = one (keyword keywords.Device) ▸ SpellsName name ▸ SpellsAs address_by address ▸ end
SpellsItem letters (byte name bits) = one (keyword keywords.Byte) ▸ SpellsName name ▸ SpellsAs data_by bits ▸ end
SpellsItem letters (device_group name devices) = one (keyword keywords.Group) ▸ SpellsName name ▸ SpellsSome devices ▸ end
SpellsItem letters (message name range frame) = one (keyword keywords.Message) ▸ SpellsName name ▸ SpellsFrame range frame ▸ end
SpellsItem letters (controller name messages) = one (keyword keywords.Controller) ▸ SpellsName name ▸ SpellsNames messages ▸ end
SpellsItem letters (extend name messages) = one (keyword keywords.Extend) ▸ SpellsName name ▸ SpellsNames messages ▸ end
SpellsItem letters (interrupt name to) = one (keyword keywords.Interrupt) ▸ SpellsName name ▸ SpellsTo to ▸ end
SpellsItem letters (never_both first second) =
    one (keyword keywords.Never) ▸ SpellsAs (side_by letters) first ▸ SpellsAs (side_by letters) second ▸ end

abbrev pub SpellsItems : Letters → List BriefItem → Phrase
SpellsItems letters [] = nothing
SpellsItems letters (item ∷ items) = SpellsItem letters item ▸ SpellsItems letters items

-- the text spells these items: after its head it has them, and ends
pub record Spells (text : List ℕ) (items : List BriefItem) : Type 0 where
  pub letters : Letters
  pub rest : Tokens
  pub line : ℕ
  pub head : opened text ≡ Ok (letters, rest)
  pub whole : SpellsItems letters items rest (tokens.last text_end line)
