-- From what briefs say to the plan: controllers are split by the labels of `never`, so that each part is a controller.
use Rattle.std.specs.Prelude.{ℕ, Bool, true, false, ◌&&◌, ◌||◌, not, List, [], ◌∷◌, ◌++◌, map, Option, Some, None, is_some}
use Rattle.std.specs.Prelude.{codes, if◌then◌else◌}
use Rattle.std.specs.List.{filter, flat_map, list_any}
use Rattle.std.specs.Str.{bytes_eq}
use Rattle.plan_core.specs.Building.{with_controller, never_refusal, with_never}
use Rattle.plan_core.specs.Contents.{Contents}
use Rattle.brief_text.specs.Drafts.{Draft, stands_for, stands_alone_for, names_made}
use Rattle.brief_text.specs.Trees.{Side}

-- a controller of the plan: a whole one, what is left of it, or what one of its labels stands for
pub record Part : Type 0 where
  pub side : Side
  pub messages : List (List ℕ)

-- the controller, and `bmc_set` for `bmc/set`
abbrev pub labelled : List ℕ → Option (List ℕ) → List ℕ
labelled controller None = controller
labelled controller (Some label) = controller ++ codes "_" ++ label

abbrev pub side_name : Side → List ℕ
side_name side = labelled side.controller side.label

abbrev pub part_name : Part → List ℕ
part_name part = side_name part.side

-- ---- parts

-- the messages that a label stands for; a whole controller has no label
abbrev pub label_messages : Draft → Side → List (List ℕ)
label_messages draft side = elim side.label [ None ↦ [] | Some label ↦ stands_for draft label ]

-- this message is a label itself
abbrev pub is_label : List ℕ → Side → Bool
is_label message side = elim side.label [ None ↦ false | Some label ↦ bytes_eq label message ]

-- where the label is that of a message with a group, the names of its devices
abbrev pub label_names : Draft → Side → List (List ℕ)
label_names draft side = elim side.label [ None ↦ [] | Some label ↦ names_made draft label ]

-- a message with a label of its own has its own part, even if its family has a label too
abbrev pub is_own_or_free : List Side → Side → List ℕ → Bool
is_own_or_free labels side message = is_label message side || not (list_any (is_label message) labels)

-- it is one of this name, which has a label
abbrev pub is_of_labelled : Draft → List Side → List ℕ → List ℕ → Bool
is_of_labelled draft labels message name =
    list_any (is_label name) labels && list_any (λ other. bytes_eq other message) (stands_alone_for draft name)

-- and so has a message of a device with a label
abbrev pub is_of_device : Draft → List Side → Side → List ℕ → Bool
is_of_device draft labels side message = list_any (is_of_labelled draft labels message) (label_names draft side)

abbrev pub is_in_part : Draft → List Side → Side → List ℕ → Bool
is_in_part draft labels side message =
    list_any (λ other. bytes_eq other message) (label_messages draft side)
    && (is_own_or_free labels side message && not (is_of_device draft labels side message))

abbrev pub label_part : Draft → List Side → List (List ℕ) → Side → Part
label_part draft labels listed side = record { side = side; messages = filter (is_in_part draft labels side) listed }

abbrev pub whole : List ℕ → Side
whole controller = record { controller = controller; label = None }

-- the controller itself, with what no label stands for
abbrev pub rest_part : Draft → List Side → List (List ℕ) → List ℕ → Part
rest_part draft labels listed controller = record {
  side = whole controller;
  messages = filter (λ message. not (list_any (λ other. bytes_eq other message) (flat_map (label_messages draft) labels))) listed;
}

abbrev pub sends_any : Part → Bool
sends_any part = elim part.messages [ [] ↦ false | message ∷ messages ↦ true ]

-- A controller of which no label is named stays as it is. Else what is left comes first, then the parts as their labels
-- were first named, and what has no message is left out.
abbrev pub split_by : Draft → List Side → List ℕ → List (List ℕ) → List Part
split_by draft [] controller listed = record { side = whole controller; messages = listed } ∷ []
split_by draft (side ∷ sides) controller listed =
    filter sends_any (rest_part draft (side ∷ sides) listed controller ∷ map (label_part draft (side ∷ sides) listed) (side ∷ sides))

abbrev pub labels_of : Draft → List ℕ → List Side
labels_of draft controller = filter (λ (side : Side). bytes_eq side.controller controller) draft.labels

abbrev pub parts_of : Draft → List ℕ × List (List ℕ) → List Part
parts_of draft controller = split_by draft (labels_of draft controller.0) controller.0 controller.1

unfoldable pub parts : Draft → List Part
parts draft = flat_map (parts_of draft) draft.controllers

-- ---- which of them never start together

-- each with each that comes after it
abbrev pub pairs_among : {A : Type 0} → List A → List (A × A)
pairs_among [] = []
pairs_among (x ∷ xs) = map (λ y. (x, y)) xs ++ pairs_among xs

-- each of the first with each of the second
abbrev pub pairs_between : {A : Type 0} → List A → List A → List (A × A)
pairs_between xs ys = flat_map (λ x. map (λ y. (x, y)) ys) xs

abbrev pub are_of_one : Part × Part → Bool
are_of_one pair = bytes_eq pair.0.side.controller pair.1.side.controller

-- a controller means all its parts, and a label its own part and those of its devices and messages
abbrev pub label_means : Draft → Option (List ℕ) → Option (List ℕ) → Bool
label_means draft None part = true
label_means draft (Some label) None = false
label_means draft (Some label) (Some part) = bytes_eq label part || list_any (λ other. bytes_eq other part) (names_made draft label ++ stands_for draft label)

abbrev pub side_means : Draft → Side → Part → Bool
side_means draft side part = bytes_eq side.controller part.side.controller && label_means draft side.label part.side.label

abbrev pub parts_meant : Draft → Side → List Part
parts_meant draft side = filter (side_means draft side) (parts draft)

abbrev pub pairs_meant : Draft → Side × Side → List (Part × Part)
pairs_meant draft never = pairs_between (parts_meant draft never.0) (parts_meant draft never.1)

-- first the parts of one controller, controller by controller, and then each `never` as it is written
unfoldable pub pairs_apart : Draft → List (List ℕ × List ℕ)
pairs_apart draft =
    map (λ pair. (part_name pair.0, part_name pair.1))
    (filter are_of_one (pairs_among (parts draft)) ++ flat_map (pairs_meant draft) draft.nevers)

-- ---- the plan

-- the plan with these controllers
abbrev pub with_parts : Contents → List Part → Contents
with_parts plan [] = plan
with_parts plan (part ∷ parts) = with_parts (with_controller plan (part_name part) part.messages) parts

-- a pair that the plan has already is not added again
abbrev pub with_pair : Contents → List ℕ × List ℕ → Contents
with_pair plan pair = if is_some (never_refusal plan pair.0 pair.1) then plan else with_never plan pair.0 pair.1

abbrev pub with_pairs : Contents → List (List ℕ × List ℕ) → Contents
with_pairs plan [] = plan
with_pairs plan (pair ∷ pairs) = with_pairs (with_pair plan pair) pairs

-- the plan that a draft means
unfoldable pub plan_meant : Draft → Contents
plan_meant draft = with_pairs (with_parts draft.plan (parts draft)) (pairs_apart draft)
