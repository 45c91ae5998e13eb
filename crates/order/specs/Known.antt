-- What is known of each two senders, kept at their place.
-- Only private contracts and proofs use this.
use Rattle.std.specs.Prelude.{◌≡◌, ℕ, ◌<◌, Option, Some, List, length, slice_get}
use Rattle.arbitration.specs.declared.spans.Outcomes.{Outcomes}
use Rattle.arbitration.specs.Arbitration.{EndTogether, Wins}
use Rattle.arbitration.specs.Spans.{IsSpan}
use Rattle.message_tree.specs.Texts.{Language}
use Rattle.order.specs.declared.known.Known.{Known}
use Rattle.plan_core.specs.Contents.{Contents}
use Rattle.plan_core.specs.Participants.{participant_count, Text}
use Rattle.plan_core.specs.SenderPlaces.{place, place_count, sender_count}

-- what two may come to who send these texts
pub record Between (P Q : Language) (outcomes : Outcomes) : Type 0 where
  pub both : IsSpan (EndTogether P Q) outcomes.both
  pub first : IsSpan (Wins P Q) outcomes.first
  pub second : IsSpan (Wins Q P) outcomes.second

-- what is known is right for all participants with these senders
pub record IsMemo (plan : Contents) (known : Known) : Type 0 where
  pub senders : known.senders ≡ sender_count plan
  pub sized : length known.found.items ≡ place_count plan
  pub right : (x y : ℕ) (outcomes : Outcomes) → x < participant_count plan → y < participant_count plan →
      slice_get known.found.items (place plan x y) ≡ Some (Some outcomes) → Between (Text plan x) (Text plan y) outcomes
