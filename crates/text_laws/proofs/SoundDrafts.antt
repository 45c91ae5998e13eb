-- What holds of every draft that was read.
use Rattle.std.proofs.Common.{◌≡◌, ℕ, ◌≤◌, ◌⊎◌, List, [], map, length, Option, Some, None}
use Rattle.std.specs.List.{sum_by}
use Rattle.std.specs.Map.{lookup, keys_of}
use Rattle.std.specs.Str.{bytes_eq}
use Rattle.message_tree.specs.Trees.{FrameTree}
use Rattle.plan_core.specs.Limits.{IsWithinLimits}
use Rattle.plan_core.specs.Names.{IsName}
use Rattle.plan_core.specs.declared.limits.TheConstants.{MOST_CONTROLLERS, MOST_SENDINGS}
use Rattle.brief_text.specs.declared.syntax.Lengths.{Lengths}
use Rattle.brief_text.specs.Drafts.{Draft, members}
use Rattle.brief_text.specs.Splitting.{side_name, parts}
use Rattle.brief_text.specs.Trees.{Side}
use Rattle.text_laws.proofs.Membership.{In, Distinct}

abbrev pub Messages : Type 0
Messages = List (List ℕ × FrameTree)

abbrev pub FamilyList : Type 0
FamilyList = List (List ℕ × Lengths)

abbrev pub Listings : Type 0
Listings = List (List ℕ × List (List ℕ))

abbrev pub family_of : List ℕ → FamilyList → Option Lengths
family_of name families = lookup (bytes_eq name) families

-- no family has the name of a message, and each member of a family is a message, of this family alone
pub record FamiliesSound (messages : Messages) (families : FamilyList) : Type 0 where
  pub apart : (name : List ℕ) (range : Lengths) → family_of name families ≡ Some range → In name (keys_of messages) → ⊥
  pub one : (m a b : List ℕ) (r s : Lengths) → family_of a families ≡ Some r → family_of b families ≡ Some s → In m (members a r) → In m (members b s) → a ≡ b
  pub known : (m a : List ℕ) (r : Lengths) → family_of a families ≡ Some r → In m (members a r) → In m (keys_of messages)
  pub once : (a : List ℕ) (r : Lengths) → family_of a families ≡ Some r → Distinct (members a r)

abbrev pub grouped_of : List ℕ → Listings → Option (List (List ℕ))
grouped_of name grouped = lookup (bytes_eq name) grouped

-- a family, or a message
abbrev pub Known : Messages → FamilyList → List ℕ → Type 0
Known messages families name = ((range : Lengths) × (family_of name families ≡ Some range)) ⊎ In name (keys_of messages)

-- what has a group is no message and no family; the names that it makes are, each once and for it alone, and none of them is a member of
-- a family
pub record GroupedSound (messages : Messages) (families : FamilyList) (grouped : Listings) : Type 0 where
  pub no_message : (a : List ℕ) (names : List (List ℕ)) → grouped_of a grouped ≡ Some names → In a (keys_of messages) → ⊥
  pub no_family : (a : List ℕ) (names : List (List ℕ)) → grouped_of a grouped ≡ Some names → family_of a families ≡ None
  pub known : (a h : List ℕ) (names : List (List ℕ)) → grouped_of a grouped ≡ Some names → In h names → Known messages families h
  pub once : (a : List ℕ) (names : List (List ℕ)) → grouped_of a grouped ≡ Some names → Distinct names
  pub one : (h a b : List ℕ) (names more : List (List ℕ)) → grouped_of a grouped ≡ Some names → grouped_of b grouped ≡ Some more → In h names → In h more → a ≡ b
  pub loose : (h a b : List ℕ) (names : List (List ℕ)) (r : Lengths) → grouped_of a grouped ≡ Some names → family_of b families ≡ Some r → In h names → In h (members b r) → ⊥

-- messages, each once
pub record ListSound (messages : Messages) (names : List (List ℕ)) : Type 0 where
  pub once : Distinct names
  pub known : (m : List ℕ) → In m names → In m (keys_of messages)

pub record ControllersSound (messages : Messages) (controllers : Listings) : Type 0 where
  pub keys : Distinct (keys_of controllers)
  pub named : (name : List ℕ) → In name (keys_of controllers) → IsName name
  pub listed : (c : List ℕ × List (List ℕ)) → In c controllers → ListSound messages c.1
  pub few : sum_by (λ c. length c.1) controllers ≤ MOST_SENDINGS

-- what has a group, a family or a message
abbrev pub Labels : Messages → FamilyList → Listings → List ℕ → Type 0
Labels messages families grouped name = ((names : List (List ℕ)) × (grouped_of name grouped ≡ Some names)) ⊎ Known messages families name

-- what a label stands for is one of these
pub record LabelSound (messages : Messages) (families : FamilyList) (grouped : Listings) (keys : List (List ℕ)) (side : Side) : Type 0 where
  pub named : IsName (side_name side)
  pub new : In (side_name side) keys → ⊥
  pub label : List ℕ
  pub is : side.label ≡ Some label
  pub known : Labels messages families grouped label
  pub owned : In side.controller keys

pub record LabelsSound (messages : Messages) (families : FamilyList) (grouped : Listings) (keys : List (List ℕ)) (labels : List Side) : Type 0 where
  pub once : Distinct (map side_name labels)
  pub each : (side : Side) → In side labels → LabelSound messages families grouped keys side

-- a side of a `never` is a controller, or has a label that was named
abbrev pub SideSound : List (List ℕ) → List Side → Side → Type 0
SideSound keys labels side = In side.controller keys × ((side.label ≡ None) ⊎ In side labels)

pub record Sound (draft : Draft) : Type 0 where
  pub limits : IsWithinLimits draft.plan
  pub no_controllers : draft.plan.controllers ≡ []
  pub no_nevers : draft.plan.nevers ≡ []
  pub families : FamiliesSound draft.plan.messages draft.families
  pub grouped : GroupedSound draft.plan.messages draft.families draft.grouped
  pub devices : (a d : List ℕ) (names : List (List ℕ)) → grouped_of a draft.groups ≡ Some names → In d names → IsName d
  pub controllers : ControllersSound draft.plan.messages draft.controllers
  pub labels : LabelsSound draft.plan.messages draft.families draft.grouped (keys_of draft.controllers) draft.labels
  pub few_parts : length (parts draft) ≤ MOST_CONTROLLERS
  pub nevers : (never : Side × Side) → In never draft.nevers → SideSound (keys_of draft.controllers) draft.labels never.0 × SideSound (keys_of draft.controllers) draft.labels never.1
