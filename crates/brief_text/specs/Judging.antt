-- What is refused of a name, of a range and of a label where it stands, by what the items before it make up.
use Rattle.std.specs.Prelude.{◌≡◌, ℕ, ◌+◌, ◌*◌, Bool, true, false, ◌&&◌, ◌||◌, not, nat_le, nat_lt, List, ◌++◌, length, map, Option}
use Rattle.std.specs.Prelude.{Some, None, is_some, unwrap_or, [], ◌∷◌, Result, Ok, Err, if◌then◌else◌}
use Rattle.std.specs.List.{flat_map, list_any, sum_by}
use Rattle.std.specs.Map.{keys_of, lookup}
use Rattle.std.specs.Str.{bytes_eq}
use Rattle.plan_core.specs.Building.{has_name, message_name_refusal}
use Rattle.plan_core.specs.declared.builder.BuildError.{BuildError}
use Rattle.plan_core.specs.declared.builder.BuildError.TheVariants.{Twice, Unknown, TooMany}
use Rattle.plan_core.specs.declared.limits.TheConstants.{MOST_MESSAGES, MOST_CONTROLLERS, MOST_SENDINGS}
use Rattle.plan_text.specs.declared.errors.PlanError.{PlanError}
use Rattle.plan_text.specs.declared.errors.PlanError.TheVariants as errors
use Rattle.brief_text.specs.declared.syntax.Lengths.{Lengths}
use Rattle.brief_text.specs.Drafts.{Draft, lengths, member_name, members, stands_for, is_group, devices_of, device_names, frame_groups, same_side, is_new_label, with_label}
use Rattle.brief_text.specs.Splitting.{parts, side_name}
use Rattle.brief_text.specs.Trees.{BriefFrame, Side, BriefItem, device, byte, device_group, message}

-- a name stands once among those of its kind
abbrev pub named_refusal : {A : Type 0} → List (List ℕ × A) → List ℕ → Option BuildError
named_refusal entries name = if is_some (lookup (bytes_eq name) entries) then Some Twice else None

-- ---- groups

-- a further device of a group, after these
unfoldable pub device_refusal : Draft → List (List ℕ) → List ℕ → Option BuildError
device_refusal draft before name =
    if not (is_some (lookup (bytes_eq name) draft.devices)) || is_group draft name then Some Unknown
    else if list_any (λ other. bytes_eq other name) before then Some Twice
    else None

-- ---- messages and families, whose names are of one kind

-- a family, by numbers or by a group, or a message, that of a family too
abbrev pub is_family : Draft → List ℕ → Bool
is_family draft name = is_some (lookup (bytes_eq name) draft.families) || is_some (lookup (bytes_eq name) draft.grouped)

abbrev pub is_message : Draft → List ℕ → Bool
is_message draft name = is_family draft name || has_name name draft.plan.messages

unfoldable pub message_refusal_of : Draft → List ℕ → Option BuildError
message_refusal_of draft name =
    if is_family draft name then Some Twice else message_name_refusal draft.plan name

-- `NAME_HI` has no more characters than a name may have, none of the messages stands already, and the plan has room
abbrev pub range_refusal : {A : Type 0} → Draft → List ℕ → Lengths → ℕ → A → Result A PlanError
range_refusal draft name range line x =
    if nat_lt 32 (length (member_name name range.greatest)) then Err (errors.Unexpected line)
    else if list_any (is_message draft) (members name range) then Err (errors.Twice line)
    else if nat_lt MOST_MESSAGES (length draft.plan.messages + length (members name range)) then Err (errors.TooMany line)
    else Ok x

-- ---- what a message makes by a group

-- how many messages one name stands for, and the longest name of these
abbrev pub how_many : Option Lengths → ℕ
how_many None = 1
how_many (Some range) = length (lengths range)

abbrev pub longest : Option Lengths → List ℕ → List ℕ
longest None name = name
longest (Some range) name = member_name name range.greatest

abbrev pub is_long : Option Lengths → List ℕ → Bool
is_long range name = nat_lt 32 (length (longest range name))

-- all names that are made: one for each device, and those of the messages of each
abbrev pub further_names : Option Lengths → List (List ℕ) → List (List ℕ)
further_names None names = names
further_names (Some range) names = names ++ flat_map (λ name. members name range) names

-- one of these names stands twice
abbrev pub repeats : List (List ℕ) → Bool
repeats [] = false
repeats (name ∷ names) = list_any (λ other. bytes_eq other name) names || repeats names

-- there is one group, the plan has room, each name has no more characters than it may have, and none stands already or is made twice
abbrev pub grouped_by : {A : Type 0} → Draft → List ℕ → Option Lengths → List (List ℕ) → ℕ → A → Result A PlanError
grouped_by draft name range [] line x = Ok x
grouped_by draft name range (group ∷ others) line x =
    if list_any (λ other. not (bytes_eq other group)) others then Err (errors.Unexpected line)
    else if nat_lt MOST_MESSAGES (length (devices_of draft group)) then Err (errors.TooMany line)
    else if nat_lt MOST_MESSAGES (length draft.plan.messages + length (devices_of draft group) * how_many range) then Err (errors.TooMany line)
    else if list_any (is_long range) (device_names draft name group) then Err (errors.Unexpected line)
    else if list_any (is_message draft) (further_names range (device_names draft name group)) then Err (errors.Twice line)
    else if repeats (further_names range (device_names draft name group)) then Err (errors.Twice line)
    else Ok x

abbrev pub grouped_refusal : {A : Type 0} → Draft → List ℕ → Option Lengths → BriefFrame → ℕ → A → Result A PlanError
grouped_refusal draft name range frame line x = grouped_by draft name range (frame_groups draft frame) line x

-- what has a name among devices, bytes or families has a name of its own
abbrev pub IsNew : Draft → BriefItem → Type 0
IsNew draft (device name address) = named_refusal draft.devices name ≡ None
IsNew draft (byte name bits) = named_refusal draft.bytes name ≡ None
IsNew draft (device_group name devices) = named_refusal draft.devices name ≡ None
IsNew draft (message name (Some range) frame) = is_family draft name ≡ false
IsNew draft item = Unit {0}

-- ---- controllers, and what they list

-- the names of controllers, and those that labels take
abbrev pub taken_names : Draft → List (List ℕ)
taken_names draft = keys_of draft.controllers ++ map side_name draft.labels

abbrev pub is_taken : Draft → List ℕ → Bool
is_taken draft name = list_any (bytes_eq name) (taken_names draft)

unfoldable pub controller_refusal_of : Draft → List ℕ → Option BuildError
controller_refusal_of draft name =
    if is_taken draft name then Some Twice
    else if nat_le MOST_CONTROLLERS (length (parts draft)) then Some TooMany
    else None

-- the messages that these names stand for
abbrev pub all_of : Draft → List (List ℕ) → List (List ℕ)
all_of draft names = flat_map (stands_for draft) names

abbrev pub have_one_of : List (List ℕ) → List (List ℕ) → Bool
have_one_of listed names = list_any (λ name. list_any (λ other. bytes_eq other name) listed) names

abbrev pub sendings : Draft → ℕ
sendings draft = sum_by (λ c. length c.1) draft.controllers

-- a further name in the list of a controller, which has some messages already and is given these as well
unfoldable pub listing_refusal : Draft → List (List ℕ) → List (List ℕ) → List ℕ → Option BuildError
listing_refusal draft has given name =
    if not (is_message draft name) then Some Unknown
    else if have_one_of has (stands_for draft name) || have_one_of given (stands_for draft name) then Some Twice
    else if nat_lt MOST_SENDINGS (sendings draft + length given + length (stands_for draft name)) then Some TooMany
    else None

-- the messages that the controller with this name lists
abbrev pub listed_by : Draft → List ℕ → List (List ℕ)
listed_by draft name = unwrap_or (lookup (bytes_eq name) draft.controllers) []

-- a label of the controller has been named
abbrev pub is_labelled : Draft → List ℕ → Bool
is_labelled draft name = list_any (λ (label : Side). bytes_eq label.controller name) draft.labels

-- the `never` names the controller
abbrev pub is_side_of : List ℕ → Side × Side → Bool
is_side_of name never = bytes_eq never.0.controller name || bytes_eq never.1.controller name

-- what adds to a controller: it stands before, and no `never` has named it or a label of it
unfoldable pub extend_refusal_of : Draft → List ℕ → Option BuildError
extend_refusal_of draft name =
    if not (is_some (lookup (bytes_eq name) draft.controllers)) then Some Unknown
    else if is_labelled draft name || list_any (is_side_of name) draft.nevers then Some Twice
    else None

-- ---- `never`

abbrev pub lists_one : Draft → Option (List (List ℕ)) → Option (List ℕ) → Bool
lists_one draft None label = false
lists_one draft (Some listed) None = true
lists_one draft (Some listed) (Some label) = have_one_of listed (stands_for draft label)

-- there is this controller, and it lists the message of the label, or one of its family
abbrev pub is_side : Draft → Side → Bool
is_side draft side = lists_one draft (lookup (bytes_eq side.controller) draft.controllers) side.label

-- a new label takes the name of its part, and may make one controller more
abbrev pub part_refusal : Draft → Side → Option BuildError
part_refusal draft side =
    if not (is_new_label draft side) then None
    else if is_taken draft (side_name side) then Some Twice
    else if nat_lt MOST_CONTROLLERS (length (parts (with_label draft side))) then Some TooMany
    else None

abbrev pub are_sides : Side → Side → Side × Side → Bool
are_sides first second never =
    (same_side never.0 first && same_side never.1 second) || (same_side never.0 second && same_side never.1 first)

unfoldable pub first_refusal : Draft → Side → Option BuildError
first_refusal draft first = if is_side draft first then part_refusal draft first else Some Unknown

-- after the first, whose label has been named
unfoldable pub second_refusal : Draft → Side → Side → Option BuildError
second_refusal draft first second =
    if bytes_eq first.controller second.controller then Some Twice
    else if not (is_side draft second) then Some Unknown
    else if list_any (are_sides first second) draft.nevers then Some Twice
    else part_refusal draft second
