-- What a plan holds, in its order, apart from how it is kept.
use Rattle.std.specs.Prelude.{ℕ, List, []}
use Rattle.message_tree.specs.Trees.{FrameTree}

pub record Contents : Type 0 where
  -- the name and the tree of each message
  pub messages : List (List ℕ × FrameTree)
  -- the name of each controller, and the numbers of the messages that it may send, in its own order
  pub controllers : List (List ℕ × List ℕ)
  -- the name and the address of each target that may interrupt
  pub interrupts : List (List ℕ × ℕ)
  -- the numbers of two controllers that never start together
  pub nevers : List (ℕ × ℕ)

abbrev pub empty : Contents
empty = record { messages = []; controllers = []; interrupts = []; nevers = [] }
