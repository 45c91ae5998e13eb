-- Only private contracts and proofs use this: how much there is left to let go of a message.
use Rattle.std.specs.Prelude.{◌≡◌, ℕ, ◌+◌, ◌*◌}
use Rattle.message_tree.specs.Trees.{FrameTree, write, read, PayloadTree, byte, last, TailTree, stop, again}

-- what follows an acknowledge counts twice
abbrev mutual
  pub frame_weight : FrameTree → ℕ
  frame_weight (write address acked refused) = 2 * payload_weight acked + tail_weight refused + 1
  frame_weight (read address count after refused) = 2 * tail_weight after + tail_weight refused + 1

  pub payload_weight : PayloadTree → ℕ
  payload_weight (byte bits acked refused) = payload_weight acked + tail_weight refused + 1
  payload_weight (last tail) = tail_weight tail

  pub tail_weight : TailTree → ℕ
  tail_weight stop = 0
  tail_weight (again frame) = frame_weight frame

abbrev pub refused_of : FrameTree → TailTree
refused_of (write address acked refused) = refused
refused_of (read address count after refused) = refused

abbrev pub with_refused : FrameTree → TailTree → FrameTree
with_refused (write address acked refused) tail = write address acked tail
with_refused (read address count after refused) tail = read address count after tail

-- nothing follows the acknowledge
abbrev pub IsBare : FrameTree → Type 0
IsBare (write address acked refused) = acked ≡ last stop
IsBare (read address count after refused) = after ≡ stop

-- a byte has nothing after its refusal
abbrev pub HasNoRefused : PayloadTree → Type 0
HasNoRefused (byte bits acked refused) = refused ≡ stop
HasNoRefused (last tail) = Unit {0}

abbrev pub rest_of : PayloadTree → PayloadTree
rest_of (byte bits acked refused) = acked
rest_of (last tail) = last tail
