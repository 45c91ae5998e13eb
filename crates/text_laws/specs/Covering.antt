-- Which messages of which controllers a `never` of briefs covers, and which participants of the plan send them.
use Rattle.std.specs.Prelude.{◌≡◌, ℕ, Bool, true, ◌&&◌, ◌||◌, List, Option, Some, None, slice_get}
use Rattle.std.specs.List.{list_any}
use Rattle.std.specs.Str.{bytes_eq}
use Rattle.message_tree.specs.Trees.{FrameTree}
use Rattle.plan_core.specs.declared.plans.Participant.TheVariants.{Sending}
use Rattle.plan_core.specs.Participants.{participants_of}
use Rattle.brief_text.specs.Drafts.{Draft, stands_for}
use Rattle.brief_text.specs.Splitting.{Part, parts, plan_meant}
use Rattle.brief_text.specs.Trees.{Side}

-- a message of a controller, by their names in the briefs
pub record Sent : Type 0 where
  pub controller : List ℕ
  pub message : List ℕ

abbrev pub sent_by : List ℕ × List (List ℕ) → List ℕ → Sent
sent_by controller message = record { controller = controller.0; message = message }

-- without a label it covers all messages of the controller, and a label those that it stands for
abbrev pub label_covers : Draft → Option (List ℕ) → List ℕ → Bool
label_covers draft None message = true
label_covers draft (Some label) message = list_any (λ other. bytes_eq other message) (stands_for draft label)

abbrev pub side_covers : Draft → Side → Sent → Bool
side_covers draft side sent = bytes_eq side.controller sent.controller && label_covers draft side.label sent.message

-- one side of the `never` covers one of them, and the other side the other
abbrev pub covers_both : Draft → Sent → Sent → Side × Side → Bool
covers_both draft x y never =
    (side_covers draft never.0 x && side_covers draft never.1 y) || (side_covers draft never.0 y && side_covers draft never.1 x)

-- one controller sends both, or a `never` covers them
abbrev pub told_apart : Draft → Sent → Sent → Bool
told_apart draft x y = bytes_eq x.controller y.controller || list_any (covers_both draft x y) draft.nevers

-- Participant p of the plan sends this message, and is a part of this controller. The parts are the controllers of the plan.
pub record SendsFor (draft : Draft) (p : ℕ) (sent : Sent) : Type 0 where
  -- the numbers of the part and of the message
  pub c : ℕ
  pub k : ℕ
  pub participant : slice_get (participants_of (plan_meant draft)) p ≡ Some (Sending c k)
  pub part : Part
  pub is_part : slice_get (parts draft) c ≡ Some part
  pub owner : part.side.controller ≡ sent.controller
  pub frame : FrameTree
  pub is_message : slice_get (plan_meant draft).messages k ≡ Some (sent.message, frame)
