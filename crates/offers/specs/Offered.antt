-- What is offered to mend groups of unsafe pairs. For each unsafe pair the numbers say which group is its own.
use Rattle.std.specs.Prelude.{◌≡◌, ◌==◌, ℕ, Bool, true, List, [], length, All, MatchOption, Some, slice_get}
use Rattle.std.specs.List.{list_any}
use Rattle.certificate.specs.declared.values.Fault.{Fault}
use Rattle.offers.specs.Tried.{IsTried}
use Rattle.offers.specs.declared.found.Offer.{Offer}
use Rattle.offers.specs.declared.found.Offers.{Offers}
use Rattle.offers.specs.declared.lists.Together.{Together}
use Rattle.offers.specs.declared.proposals.Change.{Change}
use Rattle.offers.specs.declared.proposals.Change.TheVariants.{Never}
use Rattle.plan_core.specs.Contents.{Contents}
use Rattle.plan_core.specs.Pairs.{pairs_of}

-- no pair of this group is left
abbrev pub IsMended : List ℕ → List Bool → ℕ → Type 0
IsMended numbers left g = (k : ℕ) → slice_get numbers k ≡ Some g → slice_get left k ≡ Some true → ⊥

-- only items that keep pairs apart leave some out: there were so many before, and there are so many now
abbrev pub KeepsPairs : Change → ℕ → ℕ → Type 0
KeepsPairs Never before now = Unit {0}
KeepsPairs _ before now = before ≡ now

-- An edit that was tried. Its own group is one of those that it mends.
pub record IsOffer (texts : List (List ℕ)) (plan : Contents) (faults : List (ℕ × Fault)) (numbers : List ℕ) (offer : Offer) : Type 0 where
  pub tried : IsTried texts plan faults offer.proposal.edits.items offer.outcome
  pub own : list_any (λ g. g == offer.group) offer.groups.items ≡ true
  pub mended : All (IsMended numbers offer.outcome.left.items) offer.groups.items
  pub kept : KeepsPairs offer.proposal.change (length (pairs_of plan)) offer.outcome.pairs

-- what comes of several offers together was tried, too
abbrev pub IsTogether : List (List ℕ) → Contents → List (ℕ × Fault) → Together → Type 0
IsTogether texts plan faults together =
    MatchOption together.outcome (together.places.items ≡ []) (λ outcome. IsTried texts plan faults together.edits.items outcome)

pub record AreOffers (texts : List (List ℕ)) (plan : Contents) (faults : List (ℕ × Fault)) (numbers : List ℕ) (offers : Offers) : Type 0 where
  pub each : All (IsOffer texts plan faults numbers) offers.all.items
  pub together : IsTogether texts plan faults offers.together
