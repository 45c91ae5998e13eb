-- What the participants of a plan send, in their order.
use Rattle.std.specs.Prelude.{◌≡◌, ℕ, List, length, Some, slice_get}
use Rattle.message_tree.specs.Texts.{Sender}
use Rattle.message_tree.specs.Trees.{FrameTree}
use Rattle.plan_core.specs.Contents.{Contents}
use Rattle.plan_core.specs.Participants.{participant_count, sender_at}
use Rattle.arbitration.specs.declared.pairs.LaidOut.{LaidOut}
use Rattle.arbitration.specs.declared.senders.Sent.{Sent}
use Rattle.arbitration.specs.Frames.{AreFrames, trees_of}
use Rattle.arbitration.specs.Senders.{IsSent}

-- participant p sends this
abbrev pub SendsAt : Contents → List FrameTree → ℕ → Sent → Type 0
SendsAt plan known p sent = (s : Sender) × (sender_at plan p ≡ Some s) × IsSent known sent s

abbrev pub AllSend : Contents → List FrameTree → List Sent → Type 0
AllSend plan known sent = (p : ℕ) (s : Sent) → slice_get sent p ≡ Some s → SendsAt plan known p s

pub record AreLaid (plan : Contents) (laid : LaidOut) : Type 0 where
  pub all : length laid.sent.items ≡ participant_count plan
  pub sent : AllSend plan (trees_of laid.frames.entries.items) laid.sent.items
  pub frames : AreFrames laid.frames.entries.items
