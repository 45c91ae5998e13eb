-- The frames of a message: the tree that they make up, or the first refusal.
use Rattle.std.specs.Prelude.{ℕ, zero, suc, ◌+◌, ◌*◌, ◌-◌, Bool, true, false, nat_le, List, Option, Some}
use Rattle.std.specs.Prelude.{None, is_some, Result, Ok, Err, if◌then◌else◌}
use Rattle.message_tree.specs.declared.counts.Count.{Count}
use Rattle.message_tree.specs.declared.bits.Address.{Address}
use Rattle.message_tree.specs.declared.bits.Pattern.{Pattern}
use Rattle.message_tree.specs.Counts.{greatest_of}
use Rattle.plan_core.specs.declared.limits.TheConstants.{MOST_NODES}
use Rattle.plan_text.specs.declared.errors.PlanError.{PlanError}
use Rattle.plan_text.specs.declared.errors.PlanError.TheVariants.{Unexpected, BadCount, TooLong}
use Rattle.plan_text.specs.Reader.{◌>>=◌, or_refused, Form, writes, reads}
use Rattle.plan_text.specs.Values.{count_of}
use Rattle.plan_text.specs.Words.{count_ends}
use Rattle.brief_tokens.specs.declared.symbols.Keyword.TheVariants as keywords
use Rattle.brief_tokens.specs.declared.symbols.Sign.TheVariants as signs
use Rattle.brief_text.specs.declared.syntax.Lengths.{Lengths}
use Rattle.brief_text.specs.Drafts.{Draft}
use Rattle.brief_text.specs.Judging.{range_refusal}
use Rattle.brief_text.specs.Places.{Place, Reads, Finds, token_as, open_in, close_in, past, to_at, data_at}
use Rattle.brief_tokens.specs.Tokens.{Token, keyword, word, sign, Tokens, next, last}
use Rattle.brief_tokens.specs.Tokens as tokens
use Rattle.brief_text.specs.Trees.{Said, Times, times, ranged, BriefFrame, write_to, read_from, BriefBytes, data_byte, made_byte}
use Rattle.brief_text.specs.Trees.{no_more, BriefTail, stop_here, go_on, Made, header, packet_code, checksum, chosen, Choice, span, all_but}
use Rattle.brief_text.specs.Choices.{is_choice, numbers}
use Rattle.brief_text.specs.Words.{known_byte_by, Repetition, so_often, from_to, repetition_by, is_countable, is_range}

-- ---- the limits. What stands after the `else` of `any*16` stands in the message 16 times: in 16 copies. Room is how many
-- bytes a path may still have, where it is longest. A range counts as its HI.

-- so many more nodes, with the token that says so on this line
abbrev pub counted : ℕ → ℕ → Place → Result Place PlanError
counted nodes line at =
    if nat_le (at.nodes + nodes) MOST_NODES then Ok (record at { nodes = at.nodes + nodes }) else Err (TooLong line)

-- a count that finds room
abbrev pub ends_in : Token → Option (List ℕ × List ℕ)
ends_in (word bytes) = count_ends bytes
ends_in token = None

abbrev pub count_at : ℕ → Place → Reads Count
count_at room at = do
  ends ← token_as ends_in at
  count ← or_refused (count_of ends.0) (BadCount ends.1)
  if nat_le (greatest_of count) room then Ok (count, ends.2) else Err (TooLong ends.1)

-- so many more bytes on a path, each in so many copies
abbrev pub further : ℕ → ℕ → ℕ → ℕ → Place → Result Place PlanError
further room copies more line at =
    if nat_le more room then counted (copies * more) line at else Err (TooLong line)

-- ---- repetitions: how often a data byte stands, and how many more of it that are at most

-- the message in which a repetition stands: what briefs have before it, and its name
pub record Around : Type 0 where
  pub draft : Draft
  pub name : List ℕ

abbrev pub repetition_in : Token → Option Repetition
repetition_in (word bytes) = repetition_by bytes
repetition_in token = None

-- so many more bytes, which stand so often
abbrev pub often_or : Times → ℕ → ℕ → ℕ → ℕ → Place → Reads (Times × ℕ)
often_or often room copies more line at = do
  after ← further room copies more line at
  Ok ((often, more), after)

abbrev pub with_range : Around → ℕ → ℕ → Lengths → ℕ → Place → Reads (Times × ℕ)
with_range around room copies range line at = do
  named ← range_refusal around.draft around.name range line (record at { range = Some range })
  often_or ranged room copies (range.greatest - 1) line named

abbrev pub often_by : Around → ℕ → ℕ → Repetition → ℕ → Place → Reads (Times × ℕ)
often_by around room copies (so_often n) line at =
    if is_countable n then often_or (times n) room copies (n - 1) line at else Err (BadCount line)
often_by around room copies (from_to least greatest) line at =
    if is_some at.range then Err (Unexpected line)
    else if is_range least greatest then with_range around room copies (record { least = least; greatest = greatest }) line at
    else Err (BadCount line)

-- once, or as the number or the range after `*` says
abbrev pub often_from : Around → ℕ → ℕ → Tokens → Place → Reads (Times × ℕ)
often_from around room copies (next (sign signs.Star) line rest) at = do
  found ← token_as repetition_in (record at { tokens = rest })
  often_by around room copies found.0 found.1 found.2
often_from around room copies tokens at = Ok ((times 1, 0), at)

abbrev pub often_at : Around → ℕ → ℕ → Place → Reads (Times × ℕ)
often_at around room copies at = often_from around room copies at.tokens at

-- ---- the rules

-- how the rest of a frame is read after its address, and how the rest of the data bytes is read after the first
abbrev pub Frames : Type 0
Frames = Form → Said Address → ℕ → Place → Reads BriefFrame

abbrev pub Bytes : Type 0
Bytes = Said Pattern → ℕ → Place → Reads BriefBytes

-- the first token of a byte that follows from others or is a choice, and how the rest of the data bytes is read after it
pub data Opening : Type 0 where
  opens_header : (is_read : Bool) → Opening
  opens_code : Opening
  opens_checksum : Opening
  opens_span : (least greatest : ℕ) → Opening
  opens_but : Opening

abbrev pub Mades : Type 0
Mades = Opening → ℕ → Place → Reads BriefBytes

-- `write` or `read`, and to whom
abbrev pub form_in : Token → Option Form
form_in (keyword keywords.Write) = Some writes
form_in (keyword keywords.Read) = Some reads
form_in token = None

abbrev pub frames_by : Draft → Frames → Place → Reads BriefFrame
frames_by draft frames at = do
  form ← token_as form_in at
  to ← to_at draft form.2
  frames form.0 to.0 to.1 to.2

-- a further frame follows by a repeated START; where there is none, a STOP follows
abbrev pub next_from : Draft → Frames → Tokens → Place → Reads BriefTail
next_from draft frames (next (keyword keywords.Write) line rest) at = do
  frame ← frames_by draft frames at
  Ok (go_on frame.0, frame.1)
next_from draft frames (next (keyword keywords.Read) line rest) at = do
  frame ← frames_by draft frames at
  Ok (go_on frame.0, frame.1)
next_from draft frames tokens at = Ok (stop_here, at)

abbrev pub next_by : Draft → Frames → Place → Reads BriefTail
next_by draft frames at = next_from draft frames at.tokens at

-- what follows where there is no acknowledge: `else stop`, or `else` and frames in parentheses; without `else` a STOP
pub data Ends : Type 0 where
  stops : Ends
  opens : Ends

abbrev pub ends_with : Token → Option Ends
ends_with (keyword keywords.Stop) = Some stops
ends_with (sign signs.Open) = Some opens
ends_with token = None

abbrev pub else_by : Draft → Frames → Ends → Place → Reads BriefTail
else_by draft frames stops at = Ok (stop_here, at)
else_by draft frames opens at = do
  frame ← frames_by draft frames at
  after ← past close_in frame.1
  Ok (go_on frame.0, after)

abbrev pub refused_from : Draft → Frames → Tokens → Place → Reads BriefTail
refused_from draft frames (next (keyword keywords.Else) line rest) at = do
  ends ← token_as ends_with (record at { tokens = rest })
  else_by draft frames ends.0 ends.2
refused_from draft frames tokens at = Ok (stop_here, at)

abbrev pub refused_by : Draft → Frames → Place → Reads BriefTail
refused_by draft frames at = refused_from draft frames at.tokens at

-- data bytes, and then what follows the last of them
abbrev pub begins_data : Tokens → Bool
begins_data (next (word w) line rest) = true
begins_data (next (keyword keywords.Any) line rest) = true
begins_data tokens = false

abbrev pub bytes_by : Draft → Bytes → Place → Reads BriefBytes
bytes_by draft bytes at = do
  found ← data_at draft at
  bytes found.0 found.1 found.2

-- `wr` or `rd` and to whom in parentheses, `pec`, `sum`, a span, or `any but` and what is not chosen
abbrev pub opening_in : Token → Option Opening
opening_in (keyword keywords.Wr) = Some (opens_header false)
opening_in (keyword keywords.Rd) = Some (opens_header true)
opening_in (keyword keywords.Pec) = Some opens_code
opening_in (keyword keywords.Sum) = Some opens_checksum
opening_in (tokens.span least greatest) = Some (opens_span least greatest)
opening_in (keyword keywords.Any) = Some opens_but
opening_in token = None

abbrev pub begins_but : Tokens → Bool
begins_but (next (keyword keywords.But) line rest) = true
begins_but tokens = false

-- `any` alone is a data byte
abbrev pub begins_made : Tokens → Bool
begins_made (next (keyword keywords.Any) line rest) = begins_but rest
begins_made (next token line rest) = is_some (opening_in token)
begins_made (last ending line) = false

-- a message has one choice or one range
abbrev pub only_choice : ℕ → Place → Result Place PlanError
only_choice line at = if is_some at.range then Err (Unexpected line) else Ok at

-- a choice whose last token stands on this line: the message is a family
abbrev pub family_by : Around → Choice → ℕ → Place → Result Place PlanError
family_by around choice line at =
    if is_choice choice then range_refusal around.draft around.name (numbers choice) line (record at { range = Some (numbers choice) })
    else Err (BadCount line)

-- a choice of one token is judged before its byte is counted
abbrev pub judged : Around → Opening → ℕ → Place → Result Place PlanError
judged around (opens_span least greatest) line at = only_choice line at >>= family_by around (span least greatest) line
judged around opening line at = Ok at

abbrev pub opening_at : Around → Place → Finds Opening
opening_at around at = do
  found ← token_as opening_in at
  after ← judged around found.0 found.1 found.2
  Ok (found.0, found.1, after)

abbrev pub but_in : Token → Option (Unit {0})
but_in (keyword keywords.But) = Some tt
but_in token = None

-- what is not chosen
abbrev pub value_excepted : Option ℕ → Option Choice
value_excepted (Some value) = Some (all_but value value)
value_excepted None = None

abbrev pub excepted_in : Token → Option Choice
excepted_in (tokens.span least greatest) = Some (all_but least greatest)
excepted_in (word bytes) = value_excepted (known_byte_by bytes)
excepted_in token = None

-- the rest of such a byte
abbrev pub made_at : Around → Opening → Place → Reads Made
made_at around opens_code at = Ok (packet_code, at)
made_at around opens_checksum at = Ok (checksum, at)
made_at around (opens_header is_read) at = do
  opened ← past open_in at
  to ← to_at around.draft opened
  closed ← past close_in to.2
  Ok (header is_read to.0, closed)
made_at around (opens_span least greatest) at = Ok (chosen (span least greatest), at)
made_at around opens_but at = do
  but ← token_as but_in at
  alone ← only_choice but.1 but.2
  excepted ← token_as excepted_in alone
  after ← family_by around excepted.0 excepted.1 excepted.2
  Ok (chosen excepted.0, after)

abbrev pub mades_by : Around → Mades → Place → Reads BriefBytes
mades_by around mades at = do
  found ← opening_at around at
  mades found.0 found.1 found.2

abbrev pub last_by : Draft → Frames → Place → Reads BriefBytes
last_by draft frames at = do
  tail ← next_by draft frames at
  Ok (no_more tail.0, tail.1)

abbrev pub payload_by : Around → Frames → Bytes → Mades → Place → Reads BriefBytes
payload_by around frames bytes mades at =
    if begins_made at.tokens then mades_by around mades at
    else if begins_data at.tokens then bytes_by around.draft bytes at
    else last_by around.draft frames at

-- The rest of a frame after its address on this line, and the rest of the data bytes after the first token, where what stands
-- before them has used so many bytes of the room, and where they stand in so many copies.
unfoldable mutual
  pub frame_in : Around → ℕ → ℕ → ℕ → Form → Said Address → ℕ → Place → Reads BriefFrame
  frame_in around zero used copies form to line at = Err (TooLong line)
  frame_in around (suc room) (suc used) copies form to line at = frame_in around room used copies form to line at
  frame_in around (suc room) zero copies writes to line at = do
    node ← counted copies line at
    refused ← refused_by around.draft (frame_in around room 0 copies) node
    acked ← payload_by around (frame_in around room 0 copies) (byte_in around room 0 copies) (made_in around room 0 copies) refused.1
    Ok (write_to to refused.0 acked.0, acked.1)
  frame_in around (suc room) zero copies reads to line at = do
    node ← counted copies line at
    count ← count_at room node
    refused ← refused_by around.draft (frame_in around room 0 copies) count.1
    after ← next_by around.draft (frame_in around room (greatest_of count.0) copies) refused.1
    Ok (read_from to count.0 refused.0 after.0, after.1)

  pub byte_in : Around → ℕ → ℕ → ℕ → Said Pattern → ℕ → Place → Reads BriefBytes
  byte_in around zero used copies bits line at = Err (TooLong line)
  byte_in around (suc room) (suc used) copies bits line at = byte_in around room used copies bits line at
  byte_in around (suc room) zero copies bits line at = do
    node ← counted copies line at
    often ← often_at around room copies node
    refused ← refused_by around.draft (frame_in around room often.0.1 (copies * suc often.0.1)) often.1
    acked ← payload_by around (frame_in around room often.0.1 copies) (byte_in around room often.0.1 copies) (made_in around room often.0.1 copies) refused.1
    Ok (data_byte bits often.0.0 refused.0 acked.0, acked.1)

  pub made_in : Around → ℕ → ℕ → ℕ → Opening → ℕ → Place → Reads BriefBytes
  made_in around zero used copies opening line at = Err (TooLong line)
  made_in around (suc room) (suc used) copies opening line at = made_in around room used copies opening line at
  made_in around (suc room) zero copies opening line at = do
    node ← counted copies line at
    made ← made_at around opening node
    refused ← refused_by around.draft (frame_in around room 0 copies) made.1
    acked ← payload_by around (frame_in around room 0 copies) (byte_in around room 0 copies) (made_in around room 0 copies) refused.1
    Ok (made_byte made.0 refused.0 acked.0, acked.1)

-- the frames of a message, where a path has so much room and they stand in so many copies
abbrev pub frames_at : Around → ℕ → ℕ → Place → Reads BriefFrame
frames_at around room copies = frames_by around.draft (frame_in around room 0 copies)
