-- What holds of every plan: the form of its names, and its bounds.
use Rattle.std.specs.Prelude.{◌≡◌, ◌≢◌, ℕ, ◌<◌, ◌≤◌, false, List, length, All, AllPairs}
use Rattle.std.specs.List.{sum_by}
use Rattle.std.specs.Map.{keys_of}
use Rattle.message_tree.specs.Sizes.{frame_bytes, frame_nodes}
use Rattle.message_tree.specs.Trees.{FrameTree}
use Rattle.plan_core.specs.declared.limits.TheConstants.{MOST_MESSAGES, MOST_CONTROLLERS, MOST_INTERRUPTS}
use Rattle.plan_core.specs.declared.limits.TheConstants.{MOST_SENDINGS, MOST_BYTES, MOST_NODES, ADDRESSES}
use Rattle.plan_core.specs.Contents.{Contents}
use Rattle.plan_core.specs.Names.{IsName}
use Rattle.plan_core.specs.Participants.{names_both}
use Rattle.plan_core.specs.declared.plans.Participant.{Participant}
use Rattle.plan_core.specs.declared.plans.Participant.TheVariants.{Sending, Interrupt}

-- each is a name, and no two are equal
pub record AreNames (names : List (List ℕ)) : Type 0 where
  pub formed : All IsName names
  pub distinct : AllPairs ◌≢◌ names

-- the sendings of all controllers together
abbrev pub sending_count : List (List ℕ × List ℕ) → ℕ
sending_count controllers = sum_by (λ c. length c.1) controllers

pub record MessagesFit (messages : List (List ℕ × FrameTree)) : Type 0 where
  pub names : AreNames (keys_of messages)
  pub count : length messages ≤ MOST_MESSAGES
  -- the bytes on one path of a message, and its nodes
  pub bytes : All (λ m. frame_bytes m.1 ≤ MOST_BYTES) messages
  pub nodes : All (λ m. frame_nodes m.1 ≤ MOST_NODES) messages

-- a controller sends messages of the plan, by their numbers, each once
pub record ControllersFit (message_count : ℕ) (controllers : List (List ℕ × List ℕ)) : Type 0 where
  pub names : AreNames (keys_of controllers)
  pub count : length controllers ≤ MOST_CONTROLLERS
  pub sendings : sending_count controllers ≤ MOST_SENDINGS
  pub known : All (λ c. All (λ k. k < message_count) c.1) controllers
  pub once : All (λ c. AllPairs ◌≢◌ c.1) controllers

pub record InterruptsFit (interrupts : List (List ℕ × ℕ)) : Type 0 where
  pub names : AreNames (keys_of interrupts)
  pub count : length interrupts ≤ MOST_INTERRUPTS
  pub addresses : All (λ t. t.1 < ADDRESSES) interrupts

-- a `never` names two controllers of the plan, by their numbers, and no other one names the same two
pub record NeversFit (controller_count : ℕ) (nevers : List (ℕ × ℕ)) : Type 0 where
  pub known : All (λ n. (n.0 < controller_count) × (n.1 < controller_count)) nevers
  pub two : All (λ n. n.0 ≢ n.1) nevers
  pub once : AllPairs (λ m n. names_both m.0 m.1 n ≡ false) nevers

pub record IsWithinLimits (plan : Contents) : Type 0 where
  pub messages : MessagesFit plan.messages
  pub controllers : ControllersFit (length plan.messages) plan.controllers
  pub interrupts : InterruptsFit plan.interrupts
  pub nevers : NeversFit (length plan.controllers) plan.nevers

-- what the participant names stands in the plan
abbrev pub IsKnown : Contents → Participant → Type 0
IsKnown plan (Sending controller message) = (controller < length plan.controllers) × (message < length plan.messages)
IsKnown plan (Interrupt k) = k < length plan.interrupts
