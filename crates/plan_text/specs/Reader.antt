-- How a plan text is read, token by token: what is read and the place after it, or the first refusal. `PlanError` in
-- src/errors.rt has the codes P1 to P8.
use Rattle.std.specs.Prelude.{ℕ, zero, suc, ◌+◌, Bool, true, false, nat_le, nat_lt, List, [], ◌∷◌, ◌++◌, Option}
use Rattle.std.specs.Prelude.{Some, None, Result, Ok, Err, codes, if◌then◌else◌}
use Rattle.std.specs.Str.{bytes_eq}
use Rattle.lexer.specs.Lexemes.{Ending, text_end, foreign, stray, no_dots}
use Rattle.message_tree.specs.declared.bits.Address.{Address}
use Rattle.message_tree.specs.declared.bits.Pattern.{Pattern}
use Rattle.message_tree.specs.declared.counts.Count.{Count}
use Rattle.message_tree.specs.Counts.{greatest_of}
use Rattle.message_tree.specs.Trees.{FrameTree, write, read, PayloadTree, byte, last, TailTree, stop, again}
use Rattle.plan_core.specs.Contents.{Contents, empty}
use Rattle.plan_core.specs.Names.{is_name}
use Rattle.plan_core.specs.Building.{message_name_refusal, with_message, controller_name_refusal, with_controller}
use Rattle.plan_core.specs.Building.{interrupt_refusal, with_interrupt, list_refusal, has_name, never_refusal, with_never}
use Rattle.plan_core.specs.declared.builder.BuildError.{BuildError}
use Rattle.plan_core.specs.declared.builder.BuildError.TheVariants as build
use Rattle.plan_core.specs.declared.limits.TheConstants.{MOST_BYTES, MOST_NODES}
use Rattle.plan_text.specs.declared.errors.PlanError.{PlanError}
use Rattle.plan_text.specs.declared.errors.PlanError.TheVariants.{NotAscii, Unexpected, BadCount, TooLong, TooMany}
use Rattle.plan_text.specs.declared.errors.PlanError.TheVariants.{Twice, Unknown, NoMemory}
use Rattle.plan_text.specs.declared.errors.PlanError.TheVariants as errors
use Rattle.plan_text.specs.declared.symbols.Keyword.TheVariants as keywords
use Rattle.plan_text.specs.declared.versions.Version.{Version}
use Rattle.plan_text.specs.declared.versions.Version.TheVariants.{One, Two}
use Rattle.plan_text.specs.Grammar.{dots_of}
use Rattle.plan_text.specs.Tokens.{Token, keyword, word, semicolon, Tokens, next, last, tokens_of}
use Rattle.plan_text.specs.Values.{address_of, pattern_of, known_address_of, count_of}
use Rattle.plan_text.specs.Words.{count_ends}

-- a place in a text: the tokens that are left, and the nodes of the message so far
pub record Place : Type 0 where
  pub tokens : Tokens
  pub nodes : ℕ

-- what is read and the place after it, or the refusal
abbrev pub Reads : Type 0 → Type 0
Reads A = Result (A × Place) PlanError

-- one after the other, up to a refusal
infixl 10 ◌>>=◌
abbrev pub ◌>>=◌ : {A B : Type 0} → Result A PlanError → (A → Result B PlanError) → Result B PlanError
(Ok x) >>= f = f x
(Err e) >>= f = Err e

-- what there is, or else this refusal
abbrev pub or_refused : {A : Type 0} → Option A → PlanError → Result A PlanError
or_refused (Some x) e = Ok x
or_refused None e = Err e

-- a refusal of the plan's, as that of the token on this line
abbrev pub refused_at : BuildError → ℕ → PlanError
refused_at build.TooLong line = TooLong line
refused_at build.TooMany line = TooMany line
refused_at build.Twice line = Twice line
refused_at build.Unknown line = Unknown line
refused_at build.NoMemory line = NoMemory

-- this, where the token on the line is not refused
abbrev pub unless_refused : {A : Type 0} → Option BuildError → ℕ → A → Result A PlanError
unless_refused (Some cause) line x = Err (refused_at cause line)
unless_refused None line x = Ok x

-- ---- tokens

-- the refusal of the tokens' end where a token is expected
abbrev pub ends_early : Ending → ℕ → PlanError
ends_early text_end line = Unexpected line
ends_early stray line = Unexpected line
ends_early foreign line = NotAscii line

-- what the first token stands for, its line, and the place after it
abbrev pub first_as : {A : Type 0} → (Token → Option A) → Tokens → ℕ → Result (A × ℕ × Place) PlanError
first_as what (next token line rest) nodes = do
  x ← or_refused (what token) (Unexpected line)
  Ok (x, line, record { tokens = rest; nodes = nodes })
first_as what (last ending line) nodes = Err (ends_early ending line)

abbrev pub token_as : {A : Type 0} → (Token → Option A) → Place → Result (A × ℕ × Place) PlanError
token_as what at = first_as what at.tokens at.nodes

-- `else`
abbrev pub else_of : Token → Option (Unit {0})
else_of (keyword keywords.Else) = Some tt
else_of token = None

abbrev pub else_at : Place → Result Place PlanError
else_at at = do
  token ← token_as else_of at
  Ok token.2

-- `;`
abbrev pub end_of : Token → Option (Unit {0})
end_of semicolon = Some tt
end_of token = None

abbrev pub end_at : Place → Result Place PlanError
end_at at = do
  token ← token_as end_of at
  Ok token.2

-- an address, and that of an interrupt
abbrev pub address_in : Token → Option Address
address_in (word bytes) = address_of bytes
address_in token = None

abbrev pub known_address_in : Token → Option ℕ
known_address_in (word bytes) = known_address_of bytes
known_address_in token = None

abbrev pub known_address_at : Place → Reads ℕ
known_address_at at = do
  address ← token_as known_address_in at
  Ok (address.0, address.2)

-- ---- messages: room is how many bytes a path may still have

-- one more node, with its token on this line
abbrev pub counted : ℕ → Place → Result Place PlanError
counted line at = if nat_lt at.nodes MOST_NODES then Ok (record at { nodes = at.nodes + 1 }) else Err (TooLong line)

-- a count: its ends, and then itself
abbrev pub ends_in : Token → Option (List ℕ × List ℕ)
ends_in (word bytes) = count_ends bytes
ends_in token = None

abbrev pub count_at : ℕ → Place → Reads Count
count_at room at = do
  ends ← token_as ends_in at
  count ← or_refused (count_of ends.0) (BadCount ends.1)
  if nat_le (greatest_of count) room then Ok (count, ends.2) else Err (TooLong ends.1)

-- what a frame begins with
pub data Form : Type 0 where
  writes : Form
  reads : Form

abbrev pub form_in : Token → Option Form
form_in (keyword keywords.Write) = Some writes
form_in (keyword keywords.Read) = Some reads
form_in token = None

-- what a tail begins with
pub data Ends : Type 0 where
  stops : Ends
  goes_on : Ends

abbrev pub ends_with : Token → Option Ends
ends_with (keyword keywords.Stop) = Some stops
ends_with (keyword keywords.Again) = Some goes_on
ends_with token = None

-- how the rest of a frame is read after its address, and how the rest of a payload is read after a data byte
abbrev pub Frames : Type 0
Frames = Form → Address → ℕ → Place → Reads FrameTree

abbrev pub Bytes : Type 0
Bytes = Pattern → ℕ → Place → Reads PayloadTree

-- `write` or `read`, and an address
abbrev pub frame_by : Frames → Place → Reads FrameTree
frame_by frames at = do
  form ← token_as form_in at
  address ← token_as address_in form.2
  frames form.0 address.0 address.1 address.2

-- `stop`, or `again` and a frame
abbrev pub tail_after : Frames → Ends → Place → Reads TailTree
tail_after frames stops at = Ok (stop, at)
tail_after frames goes_on at = do
  frame ← frame_by frames at
  Ok (again frame.0, frame.1)

abbrev pub tail_by : Frames → Place → Reads TailTree
tail_by frames at = do
  ends ← token_as ends_with at
  tail_after frames ends.0 ends.2

-- a word is a data byte, and the rest of the payload follows it; any other payload is a tail
abbrev pub payload_from : Frames → Bytes → Tokens → ℕ → Reads PayloadTree
payload_from frames bytes (next (word w) line rest) nodes = do
  bits ← or_refused (pattern_of w) (Unexpected line)
  bytes bits line (record { tokens = rest; nodes = nodes })
payload_from frames bytes tokens nodes = do
  tail ← tail_by frames (record { tokens = tokens; nodes = nodes })
  Ok (last tail.0, tail.1)

-- a payload, `else` and a tail: what follows an acknowledge, and what follows its absence
abbrev pub answers_by : Frames → Bytes → Place → Result (PayloadTree × TailTree × Place) PlanError
answers_by frames bytes at = do
  acked ← payload_from frames bytes at.tokens at.nodes
  middle ← else_at acked.1
  refused ← tail_by frames middle
  Ok (acked.0, refused.0, refused.1)

-- a tail, `else` and a tail: what follows the last byte of a read, and what follows the absence of an acknowledge
abbrev pub tails_by : (Place → Reads TailTree) → (Place → Reads TailTree) → Place
    → Result (TailTree × TailTree × Place) PlanError
tails_by first second at = do
  after ← first at
  middle ← else_at after.1
  refused ← second middle
  Ok (after.0, refused.0, refused.1)

-- The rest of a frame after its address on this line, where a read before it has used so many bytes of the room; and
-- the rest of a payload after a data byte. What follows has one byte of room less.
unfoldable mutual
  pub frame_in : ℕ → ℕ → Form → Address → ℕ → Place → Reads FrameTree
  frame_in zero used form address line at = Err (TooLong line)
  frame_in (suc room) (suc used) form address line at = frame_in room used form address line at
  frame_in (suc room) zero writes address line at = do
    node ← counted line at
    answers ← answers_by (frame_in room 0) (byte_in room) node
    Ok (write address answers.0 answers.1, answers.2)
  frame_in (suc room) zero reads address line at = do
    node ← counted line at
    count ← count_at room node
    tails ← tails_by (tail_by (frame_in room (greatest_of count.0))) (tail_by (frame_in room 0)) count.1
    Ok (read address count.0 tails.0 tails.1, tails.2)

  pub byte_in : ℕ → Pattern → ℕ → Place → Reads PayloadTree
  byte_in zero bits line at = Err (TooLong line)
  byte_in (suc room) bits line at = do
    node ← counted line at
    answers ← answers_by (frame_in room 0) (byte_in room) node
    Ok (byte bits answers.0 answers.1, answers.2)

-- a frame, where a path has so much room
abbrev pub frame_at : ℕ → Place → Reads FrameTree
frame_at room = frame_by (frame_in room 0)

-- ---- items

abbrev pub name_in : Token → Option (List ℕ)
name_in (word bytes) = if is_name bytes then Some bytes else None
name_in token = None

-- a name that is not refused
abbrev pub name_at : (List ℕ → Option BuildError) → Place → Reads (List ℕ)
name_at refusal at = do
  name ← token_as name_in at
  unless_refused (refusal name.0) name.1 (name.0, name.2)

-- `message` and then a name, a frame and `;`
unfoldable pub message_at : Contents → Place → Reads Contents
message_at plan at = do
  name ← name_at (message_name_refusal plan) at
  frame ← frame_at MOST_BYTES (record name.1 { nodes = 0 })
  after ← end_at frame.1
  Ok (with_message plan name.0 frame.0, after)

-- further names of messages after these, and `;`
abbrev pub sendings_from : Contents → List (List ℕ) → Tokens → ℕ → Reads (List (List ℕ))
sendings_from plan before (next semicolon line rest) nodes = Ok (before, record { tokens = rest; nodes = nodes })
sendings_from plan before (next token line rest) nodes = do
  name ← or_refused (name_in token) (Unexpected line)
  allowed ← unless_refused (list_refusal plan before (name ∷ [])) line name
  sendings_from plan (before ++ allowed ∷ []) rest nodes
sendings_from plan before (last ending line) nodes = Err (ends_early ending line)

-- a name, names of messages and `;`
unfoldable pub controller_at : Contents → Place → Reads Contents
controller_at plan at = do
  name ← name_at (controller_name_refusal plan) at
  messages ← sendings_from plan [] name.1.tokens name.1.nodes
  Ok (with_controller plan name.0 messages.0, messages.1)

-- a name, an address and `;`
unfoldable pub interrupt_at : Contents → Place → Reads Contents
interrupt_at plan at = do
  name ← name_at (interrupt_refusal plan) at
  address ← known_address_at name.1
  after ← end_at address.1
  Ok (with_interrupt plan name.0 address.0, after)

abbrev pub unknown_controller : Contents → List ℕ → Option BuildError
unknown_controller plan name = if has_name name plan.controllers then None else Some build.Unknown

-- two names of controllers and `;`
unfoldable pub never_at : Contents → Place → Reads Contents
never_at plan at = do
  first ← name_at (unknown_controller plan) at
  second ← name_at (never_refusal plan first.0) first.1
  after ← end_at second.1
  Ok (with_never plan first.0 second.0, after)

-- what follows the keyword of an item
abbrev pub item_in : Version → Token → Option (Contents → Place → Reads Contents)
item_in version (keyword keywords.Message) = Some message_at
item_in version (keyword keywords.Controller) = Some controller_at
item_in version (keyword keywords.Interrupt) = Some interrupt_at
item_in Two (keyword keywords.Never) = Some never_at
item_in version token = None

-- an item: the plan with it
unfoldable pub item_at : Version → Contents → Place → Reads Contents
item_at version plan at = do
  item ← token_as (item_in version) at
  item.0 plan item.2

-- ---- texts

abbrev pub is_end : Tokens → Bool
is_end (last text_end line) = true
is_end tokens = false

-- the refusal of what stands first
abbrev pub unexpected : Tokens → PlanError
unexpected (next token line rest) = Unexpected line
unexpected (last ending line) = ends_early ending line

-- so many items at most, up to the end of the text
unfoldable pub items_in : ℕ → Version → Contents → Place → Result Contents PlanError
items_in zero version plan at = Err (unexpected at.tokens)
items_in (suc most) version plan at =
    if is_end at.tokens then Ok plan else (item_at version plan at >>= λ more. items_in most version more.0 more.1)

-- the number of tokens
abbrev pub size : Tokens → ℕ
size (next token line rest) = suc (size rest)
size (last ending line) = 0

-- items up to the end of the text, of which each has a token at least
abbrev pub items_at : Version → Contents → Place → Result Contents PlanError
items_at version plan at = items_in (suc (size at.tokens)) version plan at

-- the refusal of what stands in the place of `plan` or of the version
abbrev pub no_version : Tokens → PlanError
no_version (last stray line) = Unexpected line
no_version (last foreign line) = NotAscii line
no_version (last text_end line) = errors.Version line
no_version (next token line rest) = errors.Version line

abbrev pub version_of : List ℕ → Option Version
version_of bytes =
    if bytes_eq bytes (codes "1") then Some One else if bytes_eq bytes (codes "2") then Some Two else None

abbrev pub second_at : Tokens → Result Version PlanError
second_at (next (word bytes) line rest) = or_refused (version_of bytes) (errors.Version line)
second_at tokens = Err (no_version tokens)

-- `plan` and a version
abbrev pub version_at : Tokens → Result Version PlanError
version_at (next (keyword keywords.Plan) line rest) = second_at rest
version_at tokens = Err (no_version tokens)

-- the tokens after the first
abbrev pub after_one : Tokens → Tokens
after_one (next token line rest) = rest
after_one (last ending line) = last ending line

-- The first two tokens say the version, and the version says whether `.` is a part of words in what follows.
unfoldable pub text_read : List ℕ → Result Contents PlanError
text_read text = do
  version ← version_at (tokens_of no_dots 1 text)
  items_at version empty (record { tokens = after_one (after_one (tokens_of (dots_of version) 1 text)); nodes = 0 })
