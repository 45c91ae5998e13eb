-- What the functions of the reader say of the place at which they stand. Only private contracts and proofs use this.
use Rattle.std.specs.Prelude.{◌≡◌, ◌⊎◌, ℕ, ◌+◌, ◌-◌, ◌&&◌, nat_lt, Result, Ok, Err, if◌then◌else◌}
use Rattle.message_tree.specs.Counts.{greatest_of}
use Rattle.message_tree.specs.Trees.{FrameTree, write, read, PayloadTree, byte, TailTree}
use Rattle.message_tree.specs.declared.bits.Pattern.{Pattern}
use Rattle.plan_core.specs.BuilderContents.{builder_contents}
use Rattle.plan_core.specs.Contents.{Contents}
use Rattle.plan_core.specs.declared.limits.TheConstants.{MOST_NODES}
use Rattle.plan_text.specs.declared.errors.PlanError.{PlanError}
use Rattle.plan_text.specs.declared.errors.PlanError.TheVariants.{TooLong, NoMemory}
use Rattle.plan_text.specs.declared.items.Reader.{Reader}
use Rattle.plan_text.specs.declared.sources.Source.{Source}
use Rattle.plan_text.specs.declared.symbols.Token.{Token}
use Rattle.plan_text.specs.Reader.{Place, Reads, ◌>>=◌, token_as, address_in, count_at, else_at, payload_from}
use Rattle.plan_text.specs.Reader.{tail_by, answers_by, tails_by, frame_in, byte_in}
use Rattle.plan_text.specs.Reading.{left, with_token}

abbrev pub place : Source → Place
place source = record { tokens = left source.tokens; nodes = source.nodes }

-- the plan so far, and the place after it
abbrev pub so_far : Reader → Contents
so_far reader = builder_contents reader.builder

abbrev pub ahead : Reader → Place
ahead reader = place reader.source

-- the place before this token
abbrev pub before : Token → Place → Place
before token after = record after { tokens = with_token token after.tokens }

-- the error is the refusal, or an allocation failed
abbrev pub Refuses : {A : Type 0} → Result A PlanError → PlanError → Type 0
Refuses given e = (e ≡ NoMemory) ⊎ (given ≡ Err e)

-- a call passed on to this, as reading does
abbrev pub Passes : {X A : Type 0} → Result X PlanError → Result A PlanError → A → Type 0
Passes (Ok x) given after = given ≡ Ok after
Passes (Err e) given after = Refuses given e

-- a call returned what reading gives, and stopped at the place after it
abbrev pub Gives : {X A : Type 0} → (X → A) → Result X PlanError → Reads A → Place → Type 0
Gives view (Ok x) given after = given ≡ Ok (view x, after)
Gives view (Err e) given after = Refuses given e

-- a call returned what one token stands for, and its line
abbrev pub Finds : {X A : Type 0} → (X → A) → (X → ℕ) → Result X PlanError → Result (A × ℕ × Place) PlanError → Place
    → Type 0
Finds view line (Ok x) given after = given ≡ Ok (view x, line x, after)
Finds view line (Err e) given after = Refuses given e

-- ---- parts of messages, where a path has so much room

-- one more node with its token on this line, and the room below it
abbrev pub node_at : ℕ → ℕ → Place → Reads ℕ
node_at room line at =
    if nat_lt 0 room && nat_lt at.nodes MOST_NODES then Ok (room - 1, record at { nodes = at.nodes + 1 })
    else Err (TooLong line)

abbrev pub tail_at : ℕ → Place → Reads TailTree
tail_at room = tail_by (frame_in room 0)

-- `else` and a tail
abbrev pub refusal_at : ℕ → Place → Reads TailTree
refusal_at room at = do
  middle ← else_at at
  tail_at room middle

abbrev pub payload_at : ℕ → Place → Reads PayloadTree
payload_at room at = payload_from (frame_in room 0) (byte_in room) at.tokens at.nodes

-- after `write`
abbrev pub write_at : ℕ → Place → Reads FrameTree
write_at room at = do
  address ← token_as address_in at
  node ← node_at room address.1 address.2
  answers ← answers_by (frame_in node.0 0) (byte_in node.0) node.1
  Ok (write address.0 answers.0 answers.1, answers.2)

-- after `read`
abbrev pub read_at : ℕ → Place → Reads FrameTree
read_at room at = do
  address ← token_as address_in at
  node ← node_at room address.1 address.2
  count ← count_at node.0 node.1
  tails ← tails_by (tail_at (node.0 - greatest_of count.0)) (tail_at node.0) count.1
  Ok (read address.0 count.0 tails.0 tails.1, tails.2)

-- after a data byte
abbrev pub byte_at : ℕ → Pattern → ℕ → Place → Reads PayloadTree
byte_at room bits line at = do
  node ← node_at room line at
  answers ← answers_by (frame_in node.0 0) (byte_in node.0) node.1
  Ok (byte bits answers.0 answers.1, answers.2)
