-- What two participants may come to, in terms of runs of the two alone (UM10204, 3.1.8).
use Rattle.std.specs.Prelude.{◌≡◌, ℕ, ◌+◌, ◌⊎◌, false, List, ◌++◌, length}
use Rattle.message_tree.specs.declared.items.Item.{Item}
use Rattle.plan_core.specs.Contents.{Contents}
use Rattle.plan_core.specs.Laws.{BothLive}
use Rattle.plan_core.specs.Lawful.{Set, In, pair}
use Rattle.plan_core.specs.Participants.{Text}
use Rattle.plan_core.specs.Rounds.{IsSlot, survivors}
use Rattle.plan_core.specs.Runs.{Reaches, HasEnded}
use Rattle.arbitration.specs.Arbitration.{EndTogether, Wins}

-- a run of x and y alone has ended in slot k, and both are live
abbrev pub EndsAt : Contents → ℕ → ℕ → ℕ → Type 0
EndsAt plan x y k = (u : List Item) × (length u ≡ k + 1) × HasEnded u × BothLive plan x y u

-- x beats y after the wire u: those in s have reached it with both live, and a next slot leaves x live and y not.
pub record Beats (plan : Contents) (s : Set) (x y : ℕ) (u : List Item) : Type 0 where
  pub live : Set
  pub reached : Reaches plan s u live
  pub winner : In x live
  pub loser : In y live
  pub put : ℕ → Item
  pub shown : Item
  pub next : IsSlot plan u live put shown
  pub goes_on : In x (survivors live put shown)
  pub has_lost : survivors live put shown y ≡ false

-- x beats y in slot k
abbrev pub BeatsAt : Contents → Set → ℕ → ℕ → ℕ → Type 0
BeatsAt plan s x y k = (u : List Item) × (length u ≡ k) × Beats plan s x y u

-- from the wire u on, x and y alone may come to their end with both live, or to a slot in which one of them loses
abbrev pub ComesTo : Contents → ℕ → ℕ → List Item → Type 0
ComesTo plan x y u =
    (v : List Item) ×
    ((HasEnded (u ++ v) × BothLive plan x y (u ++ v)) ⊎
    (Beats plan (pair x y) x y (u ++ v) ⊎ Beats plan (pair x y) y x (u ++ v)))

-- both may end together, or one may win
abbrev pub SomeOutcome : Contents → ℕ → ℕ → Type 0
SomeOutcome plan x y =
    (k : ℕ) ×
    (EndTogether (Text plan x) (Text plan y) k ⊎ (Wins (Text plan x) (Text plan y) k ⊎ Wins (Text plan y) (Text plan x) k))
