-- A place in a brief, and what one token or two stand for there: what is read and the place after it, or the refusal.
-- `PlanError` of plan_text has the codes P1 to P8.
use Rattle.std.specs.Prelude.{ℕ, Bool, true, List, Option, Some, None, is_some, Result, Ok, Err, if◌then◌else◌}
use Rattle.std.specs.Map.{lookup}
use Rattle.std.specs.Str.{bytes_eq}
use Rattle.message_tree.specs.declared.bits.Address.{Address}
use Rattle.message_tree.specs.declared.bits.Pattern.{Pattern}
use Rattle.plan_core.specs.Names.{is_name}
use Rattle.plan_core.specs.declared.builder.BuildError.{BuildError}
use Rattle.plan_text.specs.declared.errors.PlanError.{PlanError}
use Rattle.plan_text.specs.declared.errors.PlanError.TheVariants.{Unexpected, Unknown}
use Rattle.plan_text.specs.Reader.{◌>>=◌, or_refused, unless_refused, ends_early}
use Rattle.brief_tokens.specs.declared.symbols.Keyword.TheVariants as keywords
use Rattle.brief_tokens.specs.declared.symbols.Sign.TheVariants as signs
use Rattle.brief_text.specs.declared.syntax.Lengths.{Lengths}
use Rattle.brief_text.specs.Drafts.{Draft}
use Rattle.brief_tokens.specs.Tokens.{Token, keyword, word, sign, Tokens, next, last}
use Rattle.brief_text.specs.Trees.{Said, spelled, named}
use Rattle.brief_text.specs.Words.{address_by, data_by, any_byte}

pub record Place : Type 0 where
  -- the tokens that are left
  pub tokens : Tokens
  -- the headers and data bytes of the message so far, as many as the plan has of them
  pub nodes : ℕ
  -- LO and HI of a byte of the message so far that has a range
  pub range : Option Lengths

-- what is read and the place after it, or the refusal
abbrev pub Reads : Type 0 → Type 0
Reads A = Result (A × Place) PlanError

-- what is read, the line of its token, and the place after it, or the refusal
abbrev pub Finds : Type 0 → Type 0
Finds A = Result (A × ℕ × Place) PlanError

-- what the first token stands for
abbrev pub first_as : {A : Type 0} → (Token → Option A) → Tokens → Place → Finds A
first_as what (next token line rest) at = do
  x ← or_refused (what token) (Unexpected line)
  Ok (x, line, record at { tokens = rest })
first_as what (last ending line) at = Err (ends_early ending line)

abbrev pub token_as : {A : Type 0} → (Token → Option A) → Place → Finds A
token_as what at = first_as what at.tokens at

-- `;`, `(` and `)`
abbrev pub end_in : Token → Option (Unit {0})
end_in (sign signs.Semicolon) = Some tt
end_in token = None

abbrev pub open_in : Token → Option (Unit {0})
open_in (sign signs.Open) = Some tt
open_in token = None

abbrev pub close_in : Token → Option (Unit {0})
close_in (sign signs.Close) = Some tt
close_in token = None

-- a token that says nothing more
abbrev pub past : (Token → Option (Unit {0})) → Place → Result Place PlanError
past what at = do
  token ← token_as what at
  Ok token.2

-- a name that is not refused
abbrev pub name_in : Token → Option (List ℕ)
name_in (word bytes) = if is_name bytes then Some bytes else None
name_in token = None

abbrev pub name_at : (List ℕ → Option BuildError) → Place → Reads (List ℕ)
name_at refusal at = do
  name ← token_as name_in at
  unless_refused (refusal name.0) name.1 (name.0, name.2)

-- ---- values that may have names

abbrev pub or_name : {A : Type 0} → Option A → List ℕ → Option (Said A)
or_name (Some value) bytes = Some (spelled value)
or_name None bytes = if is_name bytes then Some (named bytes) else None

abbrev pub is_known : {A : Type 0} → List (List ℕ × A) → Said A → Bool
is_known entries (spelled value) = true
is_known entries (named name) = is_some (lookup (bytes_eq name) entries)

-- a value that is spelled out, or the name of one that stands before
abbrev pub value_as : {A : Type 0} → (Token → Option (Said A)) → List (List ℕ × A) → Place → Finds (Said A)
value_as what entries at = do
  said ← token_as what at
  if is_known entries said.0 then Ok said else Err (Unknown said.1)

-- the address of a device, or its name
abbrev pub to_in : Token → Option (Said Address)
to_in (word bytes) = or_name (address_by bytes) bytes
to_in token = None

abbrev pub to_at : Draft → Place → Finds (Said Address)
to_at draft at = value_as to_in draft.devices at

-- a data byte, its name, or `any`
abbrev pub data_in : Token → Option (Said Pattern)
data_in (word bytes) = or_name (data_by bytes) bytes
data_in (keyword keywords.Any) = Some (spelled any_byte)
data_in token = None

abbrev pub data_at : Draft → Place → Finds (Said Pattern)
data_at draft at = value_as data_in draft.bytes at
