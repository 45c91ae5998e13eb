-- What the functions of the reader say of the place at which they stand and of what they have. Only private contracts and
-- proofs use this.
use Rattle.std.specs.Prelude.{◌≡◌, ℕ, ◌-◌, ◌*◌, suc, List, Option, map, nat_lt, Result, Ok, Err, if◌then◌else◌}
use Rattle.std.specs.Option.{option_map}
use Rattle.message_tree.specs.Counts.{greatest_of}
use Rattle.message_tree.specs.declared.bits.Pattern.{Pattern}
use Rattle.plan_core.specs.BuilderContents.{builder_contents}
use Rattle.plan_core.specs.NameBytes.{name_bytes}
use Rattle.plan_text.specs.Places.{Refuses}
use Rattle.plan_text.specs.Reader.{◌>>=◌}
use Rattle.plan_text.specs.declared.errors.PlanError.{PlanError}
use Rattle.plan_text.specs.declared.errors.PlanError.TheVariants.{TooLong}
use Rattle.brief_text.specs.declared.boards.Board.{Board}
use Rattle.brief_text.specs.declared.boards.Listing.{Listing}
use Rattle.brief_text.specs.declared.boards.NameList.{NameList}
use Rattle.brief_text.specs.declared.boards.Never.{Never}
use Rattle.brief_text.specs.declared.groups.InPlace.{InPlace}
use Rattle.message_tree.specs.declared.bits.Address.{Address}
use Rattle.brief_text.specs.declared.frames.Within.{Within}
use Rattle.brief_text.specs.declared.naming.Named.{Named}
use Rattle.brief_text.specs.declared.sources.Source.{Source}
use Rattle.brief_tokens.specs.declared.symbols.Token.{Token}
use Rattle.brief_text.specs.declared.syntax.DataSyntax.{DataSyntax}
use Rattle.brief_text.specs.declared.syntax.DataSyntax.TheVariants.{Byte', Made', Last}
use Rattle.brief_text.specs.declared.syntax.MadeSyntax.{MadeSyntax}
use Rattle.brief_text.specs.declared.syntax.MadeSyntax.TheVariants as mades
use Rattle.brief_text.specs.declared.syntax.Choice as syntax
use Rattle.brief_text.specs.declared.syntax.Choice.TheVariants as choices
use Rattle.brief_text.specs.declared.frames.MadeOpening.{MadeOpening}
use Rattle.brief_text.specs.declared.frames.MadeOpening.TheVariants as openings
use Rattle.brief_text.specs.declared.syntax.FrameSyntax.{FrameSyntax}
use Rattle.brief_text.specs.declared.syntax.FrameSyntax.TheVariants.{Write', Read}
use Rattle.brief_text.specs.declared.syntax.Often.{Often}
use Rattle.brief_text.specs.declared.syntax.Often.TheVariants as oftens
use Rattle.brief_text.specs.declared.syntax.Party.{Party}
use Rattle.brief_text.specs.declared.syntax.TailSyntax.{TailSyntax}
use Rattle.brief_text.specs.declared.syntax.TailSyntax.TheVariants.{Stop, Frames'}
use Rattle.brief_text.specs.declared.syntax.Value.{Value}
use Rattle.brief_text.specs.declared.syntax.Value.TheVariants as values
use Rattle.brief_text.specs.Drafts.{Draft, standing, with_item}
use Rattle.brief_text.specs.Frames.{Around, Opening, opens_header, opens_code, opens_checksum, opens_span, opens_but, opening_at, count_at, counted}
use Rattle.brief_text.specs.Frames.{often_at, made_at, refused_by, next_by, payload_by, frame_in, byte_in, made_in}
use Rattle.brief_text.specs.Places.{Place, Reads, Finds, to_at, data_at}
use Rattle.brief_tokens.specs.Reading.{left, with_token}
use Rattle.brief_text.specs.Trees.{Said, spelled, named, Times, times, ranged, BriefFrame, write_to, read_from, BriefBytes}
use Rattle.brief_text.specs.Trees.{Choice, span, all_but, data_byte, made_byte, no_more, BriefTail, stop_here, go_on, Made, header, packet_code, checksum, chosen}
use Rattle.brief_text.specs.Trees.{Side, BriefItem}

-- ---- trees

abbrev pub said : {A : Type 0} → Value A → Said A
said (values.Spelled value) = spelled value
said (values.Named found) = named (name_bytes found.name)

abbrev pub choice_of : syntax.Choice → Choice
choice_of (choices.Span least greatest) = span least greatest
choice_of (choices.AllBut least greatest) = all_but least greatest

abbrev pub made_of : MadeSyntax → Made
made_of (mades.Header reads to) = header reads (said to)
made_of mades.PacketCode = packet_code
made_of mades.Checksum = checksum
made_of (mades.Chosen choice) = chosen (choice_of choice)

abbrev pub opening_of : MadeOpening → Opening
opening_of (openings.Header reads) = opens_header reads
opening_of openings.PacketCode = opens_code
opening_of openings.Checksum = opens_checksum
opening_of (openings.Span least greatest) = opens_span least greatest
opening_of openings.AllBut = opens_but

abbrev pub times_of : Often → Times
times_of (oftens.Times n) = times n
times_of oftens.Ranged = ranged

-- A constructor with a prime, as `Write' to refused p acked`, shows a box: `p` is its address, and the value in it comes next.
abbrev mutual
  pub brief_frame : FrameSyntax → BriefFrame
  brief_frame (Write' to refused p acked) = write_to (said to) (brief_tail refused) (brief_bytes acked)
  brief_frame (Read to count refused after) = read_from (said to) count (brief_tail refused) (brief_tail after)

  pub brief_bytes : DataSyntax → BriefBytes
  brief_bytes (Byte' bits often refused p acked) =
      data_byte (said bits) (times_of often) (brief_tail refused) (brief_bytes acked)
  brief_bytes (Made' made refused p acked) = made_byte (made_of made) (brief_tail refused) (brief_bytes acked)
  brief_bytes (Last tail) = no_more (brief_tail tail)

  pub brief_tail : TailSyntax → BriefTail
  brief_tail Stop = stop_here
  brief_tail (Frames' p frame) = go_on (brief_frame frame)

abbrev pub side : Party → Side
side party = record { controller = name_bytes party.controller; label = option_map name_bytes party.label }

-- ---- what items make up

abbrev pub entries_of : {A : Type 0} → Named A → List (List ℕ × A)
entries_of known = map (λ entry. (name_bytes entry.0, entry.1)) known.entries.entries

abbrev pub listing : Listing → List ℕ × List (List ℕ)
listing it = (name_bytes it.name, map name_bytes it.messages.items)

-- a name, and those that it makes or that stand in it
abbrev pub naming : NameList → List ℕ × List (List ℕ)
naming it = (name_bytes it.name, map name_bytes it.names.items)

-- what stands in the place of a group, and the draft where it does
abbrev pub placed : InPlace → List ℕ × Address
placed it = (name_bytes it.group.now, it.address)

abbrev pub with_device : Draft → Option InPlace → Draft
with_device before given = standing before (option_map placed given)

abbrev pub sides : Never → Side × Side
sides never = (side never.first, side never.second)

abbrev pub draft : Board → Draft
draft board = record {
  devices = entries_of board.devices;
  bytes = entries_of board.bytes;
  plan = builder_contents board.builder;
  families = entries_of board.families;
  groups = map naming board.groups.items;
  grouped = map naming board.grouped.items;
  controllers = map listing board.controllers.items;
  labels = map side board.labels.items;
  nevers = map sides board.nevers.items;
}

abbrev pub around : Within → Around
around within = record { draft = draft within.board.now; name = name_bytes within.name.now }

-- ---- places

abbrev pub place : Source → Place
place source = record {
  tokens = with_token source.token (left source.tokens);
  nodes = source.nodes;
  range = source.range;
}

-- the place before this token
abbrev pub before : Token → Place → Place
before token after = record after { tokens = with_token token after.tokens }

-- a call returned what reading gives, and stopped at the place after it
abbrev pub Gives : {X A : Type 0} → (X → A) → Result X PlanError → Reads A → Place → Type 0
Gives view (Ok x) given after = given ≡ Ok (view x, after)
Gives view (Err e) given after = Refuses given e

-- a call returned what is read and the line of its token, and stopped at the place after it
abbrev pub FindsOut : {X A : Type 0} → (X → A) → (X → ℕ) → Result X PlanError → Finds A → Place → Type 0
FindsOut view line (Ok x) given after = given ≡ Ok (view x, line x, after)
FindsOut view line (Err e) given after = Refuses given e

-- an item is read, and the draft with it
abbrev pub adds : (Draft → Place → Reads BriefItem) → Draft → Place → Result (Draft × Place) PlanError
adds item plan at = item plan at >>= λ read. Ok (with_item plan read.0, read.1)

-- ---- parts of messages, where a path has so much room, and where they stand in so many copies

-- one more node with its token on this line, and the room below it
abbrev pub node_at : ℕ → ℕ → ℕ → Place → Reads ℕ
node_at room copies line at =
    if nat_lt 0 room then (counted copies line at >>= λ node. Ok (room - 1, node)) else Err (TooLong line)

abbrev pub refused_at : Around → ℕ → ℕ → Place → Reads BriefTail
refused_at around room copies = refused_by around.draft (frame_in around room 0 copies)

abbrev pub next_at : Around → ℕ → ℕ → Place → Reads BriefTail
next_at around room copies = next_by around.draft (frame_in around room 0 copies)

abbrev pub payload_at : Around → ℕ → ℕ → Place → Reads BriefBytes
payload_at around room copies =
    payload_by around (frame_in around room 0 copies) (byte_in around room 0 copies) (made_in around room 0 copies)

-- after `write`
abbrev pub write_at : Around → ℕ → ℕ → Place → Reads BriefFrame
write_at around room copies at = do
  to ← to_at around.draft at
  node ← node_at room copies to.1 to.2
  refused ← refused_at around node.0 copies node.1
  acked ← payload_at around node.0 copies refused.1
  Ok (write_to to.0 refused.0 acked.0, acked.1)

-- after `read`
abbrev pub read_at : Around → ℕ → ℕ → Place → Reads BriefFrame
read_at around room copies at = do
  to ← to_at around.draft at
  node ← node_at room copies to.1 to.2
  count ← count_at node.0 node.1
  refused ← refused_at around node.0 copies count.1
  after ← next_at around (node.0 - greatest_of count.0) copies refused.1
  Ok (read_from to.0 count.0 refused.0 after.0, after.1)

-- a data byte after its first token on this line
abbrev pub byte_after : Around → ℕ → ℕ → Said Pattern → ℕ → Place → Reads BriefBytes
byte_after around room copies bits line at = do
  node ← node_at room copies line at
  often ← often_at around node.0 copies node.1
  refused ← refused_at around (node.0 - often.0.1) (copies * suc often.0.1) often.1
  acked ← payload_at around (node.0 - often.0.1) copies refused.1
  Ok (data_byte bits often.0.0 refused.0 acked.0, acked.1)

-- data bytes
abbrev pub bytes_at : Around → ℕ → ℕ → Place → Reads BriefBytes
bytes_at around room copies at = do
  found ← data_at around.draft at
  byte_after around room copies found.0 found.1 found.2

-- a byte that follows from others or is a choice, after its first token on this line, and what follows it
abbrev pub made_after : Around → ℕ → ℕ → Opening → ℕ → Place → Reads BriefBytes
made_after around room copies opening line at = do
  node ← node_at room copies line at
  made ← made_at around opening node.1
  refused ← refused_at around node.0 copies made.1
  acked ← payload_at around node.0 copies refused.1
  Ok (made_byte made.0 refused.0 acked.0, acked.1)

abbrev pub mades_at : Around → ℕ → ℕ → Place → Reads BriefBytes
mades_at around room copies at = do
  found ← opening_at around at
  made_after around room copies found.0 found.1 found.2
