-- What a board says of a name.
use Rattle.std.proofs.Common.{◌≡◌, ℕ, ◌+◌, ◌*◌, ◌<◌, ◌≤◌, arith, Bool, true, false, ◌||◌, ◌&&◌, List, [], ◌∷◌, ◌∙◌, Option, Some, None, is_some, IfSome, refl, ap, sym}
use Rattle.std.specs.Prelude.{nat_le, nat_lt, length, unwrap_or, Ok, Err, not, if◌then◌else◌}
use Rattle.std.specs.List.{list_any, sum_by, fold}
use Rattle.std.proofs.lemmas.List.{length-map}
use Rattle.plan_core.proofs.StepLemmas.{list_any-map}
use Rattle.plan_core.specs.NameBytes.{name_bytes}
use Rattle.plan_core.specs.declared.names.Name.{Name}
use Rattle.brief_text.specs.declared.boards.Listing.{Listing}
use Rattle.brief_text.specs.declared.syntax.Party.{Party}
use Rattle.brief_text.specs.Splitting.{side_name, parts}
use Rattle.brief_text.specs.declared.boards.Never.{Never}
use Rattle.std.specs.Option.{option_map}
use Rattle.brief_text.specs.Standing.{listing, side, sides}
use Rattle.brief_text.specs.Trees.{Side}
use Rattle.std.specs.Map.{keys_of}
use Rattle.std.proofs.lemmas.List.Folds.{list_any-append}
use Rattle.std.proofs.lemmas.Bool.Decides.{nat_tests}
use Rattle.plan_text.specs.declared.errors.PlanError.TheVariants as errors
use Rattle.brief_text.specs.declared.syntax.Lengths.{Lengths}
use Rattle.std.specs.Map.{lookup}
use Rattle.std.specs.Str.{bytes_eq}
use Rattle.message_tree.specs.Bits.{bits_below}
use Rattle.message_tree.specs.Patterns.{address_bits}
use Rattle.message_tree.specs.declared.bits.Address.{Address}
use Rattle.plan_core.specs.Building.{has_name, message_name_refusal}
use Rattle.plan_core.specs.declared.builder.BuildError.{BuildError}
use Rattle.plan_core.specs.declared.builder.BuildError.TheVariants.{Twice, TooMany, Unknown}
use Rattle.plan_core.specs.declared.limits.TheConstants.{MOST_MESSAGES, MOST_CONTROLLERS, MOST_SENDINGS}
use Rattle.plan_text.specs.Symbols.{bit_symbol}
use Rattle.plan_text.specs.Values.{address_of}
use Rattle.plan_text.proofs.ValueLemmas.{address_found}
use Rattle.std.specs.Prelude.{codes, map}
use Rattle.brief_text.specs.Drafts.{Draft, any_address, value_or, member_name, members, stands_for, same_side, is_new_label, is_group, devices_of, device_names}
use Rattle.brief_text.specs.Judging.{device_refusal, how_many, is_long, further_names, repeats, grouped_by, is_family, is_message, message_refusal_of, range_refusal, have_one_of, sendings, listing_refusal, is_labelled, is_side_of, extend_refusal_of, is_taken, are_sides, lists_one, is_side, part_refusal, first_refusal, second_refusal, controller_refusal_of}
use Rattle.brief_text.specs.Meanings.{is_twice}
use Rattle.brief_text.specs.Trees.{named}

by_tests : (family message full : Bool) → is_twice (if family then Some Twice else (if message then Some Twice else if full then Some TooMany else None)) ≡ (family || message)
by_tests true message full = refl
by_tests false true full = refl
by_tests false false true = refl
by_tests false false false = refl

pub twice_is_message : (draft : Draft) (name : List ℕ) → is_twice (message_refusal_of draft name) ≡ is_message draft name
unfolding message_refusal_of message_name_refusal
twice_is_message draft name = by_tests (is_family draft name) (has_name name draft.plan.messages) (nat_le MOST_MESSAGES (length draft.plan.messages))

-- seven open bits
pub any_address_is : (a : Address) → address_bits a ≡ bits_below 7 0 0 → any_address ≡ a
unfolding address_of
any_address_is a is =
    let found : address_of (codes "xxxxxxx") ≡ Some a = address_found (codes "xxxxxxx") a (ap (map bit_symbol) is) in
    let same : Some any_address ≡ Some a = found in
    cc

pub no_value : {A : Type 0} (or : A) (entries : List (List ℕ × A)) (name : List ℕ) → lookup (bytes_eq name) entries ≡ None → value_or or entries (named name) ≡ or
no_value {A} or entries name e = ap (λ (o : Option A). unwrap_or o or) e

-- ---- ranges, by three tests

module _ {A : Type 0} (draft : Draft) (name : List ℕ) (range : Lengths) (line : ℕ) (x : A) where
  pub range_judged : (long stands many : Bool) → nat_lt 32 (length (member_name name range.greatest)) ≡ long → list_any (is_message draft) (members name range) ≡ stands → nat_lt MOST_MESSAGES (length draft.plan.messages + length (members name range)) ≡ many
      → range_refusal draft name range line x ≡ (if long then Err (errors.Unexpected line) else if stands then Err (errors.Twice line) else if many then Err (errors.TooMany line) else Ok x)
  range_judged long stands many is_long one_stands are_many =
      λ i. if is_long i then Err (errors.Unexpected line) else if one_stands i then Err (errors.Twice line) else if are_many i then Err (errors.TooMany line) else Ok x

pub no_more_than : (n m : ℕ) → n ≤ m → nat_lt m n ≡ false
no_more_than n m h = grind (arith, nat_tests)

pub more_than : (n m : ℕ) → m < n → nat_lt m n ≡ true
more_than n m h = grind (arith, nat_tests)

-- ---- a message that is not refused

none_of : (family : Bool) (later : Option BuildError) → (if family then Some Twice else later) ≡ None → family ≡ false
none_of true later h = absurd cc
none_of false later h = refl

pub no_family : (draft : Draft) (name : List ℕ) → message_refusal_of draft name ≡ None → is_family draft name ≡ false
unfolding message_refusal_of
no_family draft name h = none_of (is_family draft name) (message_name_refusal draft.plan name) h

pub for_any : {A P : Type 0} (o : Option A) → P → IfSome o (λ it. P)
for_any None p = tt
for_any (Some x) p = p

-- ---- lists of names

pub have_one : (listed names : List Name) → have_one_of (map name_bytes listed) (map name_bytes names) ≡ list_any (λ name. list_any (λ other. bytes_eq (name_bytes other) (name_bytes name)) listed) names
have_one listed names =
    list_any-map (λ (name : List ℕ). list_any (λ other. bytes_eq other name) (map name_bytes listed)) name_bytes names
    ∙ (λ i. list_any (λ name. list_any-map (λ (other : List ℕ). bytes_eq other (name_bytes name)) name_bytes listed i) names)

sums : (n : ℕ) (controllers : List Listing) → fold (λ (a : ℕ) (c : List ℕ × List (List ℕ)). a + length c.1) n (map listing controllers) ≡ fold (λ (a : ℕ) (it : Listing). a + length it.messages.items) n controllers
sums n [] = refl
sums n (it ∷ controllers) =
    ap (λ m. fold (λ (a : ℕ) (c : List ℕ × List (List ℕ)). a + length c.1) (n + m) (map listing controllers)) (length-map {B = List ℕ} it.messages.items name_bytes)
    ∙ sums (n + length it.messages.items) controllers

pub sendings_of : (controllers : List Listing) → sum_by (λ c. length c.1) (map listing controllers) ≡ sum_by (λ (it : Listing). length it.messages.items) controllers
sendings_of controllers = sums 0 controllers

module _ (draft : Draft) (has listed : List (List ℕ)) (name : List ℕ) where
  pub listing_judged : (known twice many : Bool) → is_message draft name ≡ known → (have_one_of has (stands_for draft name) || have_one_of listed (stands_for draft name)) ≡ twice
      → nat_lt MOST_SENDINGS (sendings draft + length listed + length (stands_for draft name)) ≡ many
      → listing_refusal draft has listed name ≡ (if not known then Some Unknown else if twice then Some Twice else if many then Some TooMany else None)
  unfolding listing_refusal
  listing_judged known twice many is_known is_twice are_many =
      λ i. if not (is_known i) then Some Unknown else if is_twice i then Some Twice else if are_many i then Some TooMany else None

-- ---- what adds to a controller

pub extend_judged : (draft : Draft) (name : List ℕ) (known apart : Bool) → is_some (lookup (bytes_eq name) draft.controllers) ≡ known → (is_labelled draft name || list_any (is_side_of name) draft.nevers) ≡ apart
    → extend_refusal_of draft name ≡ (if not known then Some Unknown else if apart then Some Twice else None)
unfolding extend_refusal_of
extend_judged draft name known apart is_known is_apart = λ i. if not (is_known i) then Some Unknown else if is_apart i then Some Twice else None

-- ---- names of controllers and of parts

pub taken : (draft : Draft) (name : List ℕ) (controllers : List Listing) (labels : List Party) → draft.controllers ≡ map listing controllers → draft.labels ≡ map side labels
    → is_taken draft name ≡ (list_any (λ (it : Listing). bytes_eq name (name_bytes it.name)) controllers || list_any (λ (it : Party). bytes_eq name (side_name (side it))) labels)
taken draft name controllers labels one other =
    list_any-append (bytes_eq name) (keys_of draft.controllers) (map side_name draft.labels)
    ∙ (λ i. list_any (bytes_eq name) (keys_of (one i)) || list_any (bytes_eq name) (map side_name (other i)))
    ∙ (λ i. keys i || parts i)
  where
    keys : list_any (bytes_eq name) (keys_of (map listing controllers)) ≡ list_any (λ (it : Listing). bytes_eq name (name_bytes it.name)) controllers
    keys = list_any-map (bytes_eq name) _ (map listing controllers) ∙ list_any-map (λ (c : List ℕ × List (List ℕ)). bytes_eq name c.0) listing controllers

    parts : list_any (bytes_eq name) (map side_name (map side labels)) ≡ list_any (λ (it : Party). bytes_eq name (side_name (side it))) labels
    parts = list_any-map (bytes_eq name) side_name (map side labels) ∙ list_any-map (λ (s : Side). bytes_eq name (side_name s)) side labels

pub new_label : (draft : Draft) (party : Party) (labels : List Party) → draft.labels ≡ map side labels
    → is_new_label draft (side party) ≡ (is_some party.label && not (list_any (λ (it : Party). same_side (side it) (side party)) labels))
new_label draft party labels same =
    λ i. some party.label i && not ((ap (λ them. list_any (λ other. same_side other (side party)) them) same ∙ list_any-map (λ other. same_side other (side party)) side labels) i)
  where
    some : (o : Option Name) → is_some (option_map name_bytes o) ≡ is_some o
    some None = refl
    some (Some x) = refl

pub nevers_of : (first second : Side) (nevers : List Never) → list_any (are_sides first second) (map sides nevers) ≡ list_any (λ (it : Never). are_sides first second (sides it)) nevers
nevers_of first second nevers = list_any-map (are_sides first second) sides nevers

-- a controller lists one of the messages that a label stands for
pub side_lists : (draft : Draft) (party : Party) (label : Name) (listed them : List Name) → lookup (bytes_eq (name_bytes party.controller)) draft.controllers ≡ Some (map name_bytes listed)
    → party.label ≡ Some label → map name_bytes them ≡ stands_for draft (name_bytes label)
    → is_side draft (side party) ≡ list_any (λ name. list_any (λ other. bytes_eq (name_bytes other) (name_bytes name)) listed) them
side_lists draft party label listed them found is stand =
    (λ i. lists_one draft (found i) (option_map name_bytes (is i)))
    ∙ ap (have_one_of (map name_bytes listed)) (sym stand) ∙ have_one listed them

-- ---- controllers and labels, by tests

pub at_least : (n m : ℕ) → n ≤ m → nat_le n m ≡ true
at_least n m h = grind (arith, nat_tests)

pub below : (n m : ℕ) → m < n → nat_le n m ≡ false
below n m h = grind (arith, nat_tests)

pub controller_judged : (draft : Draft) (name : List ℕ) (taken full : Bool) → is_taken draft name ≡ taken → nat_le MOST_CONTROLLERS (length (parts draft)) ≡ full
    → controller_refusal_of draft name ≡ (if taken then Some Twice else if full then Some TooMany else None)
unfolding controller_refusal_of
controller_judged draft name taken full is_taken are_full = λ i. if is_taken i then Some Twice else if are_full i then Some TooMany else None

pub first_judged : (draft : Draft) (first : Side) (known : Bool) → is_side draft first ≡ known → first_refusal draft first ≡ (if known then part_refusal draft first else Some Unknown)
unfolding first_refusal
first_judged draft first known is_known = λ i. if is_known i then part_refusal draft first else Some Unknown

pub second_judged : (draft : Draft) (first second : Side) (same known twice : Bool) → bytes_eq first.controller second.controller ≡ same → is_side draft second ≡ known → list_any (are_sides first second) draft.nevers ≡ twice
    → second_refusal draft first second ≡ (if same then Some Twice else if not known then Some Unknown else if twice then Some Twice else part_refusal draft second)
unfolding second_refusal
second_judged draft first second same known twice are_same is_known are_twice =
    λ i. if are_same i then Some Twice else if not (is_known i) then Some Unknown else if are_twice i then Some Twice else part_refusal draft second

-- ---- devices of groups, by tests

pub device_judged : (draft : Draft) (before : List (List ℕ)) (name : List ℕ) (known among twice : Bool) → is_some (lookup (bytes_eq name) draft.devices) ≡ known → is_group draft name ≡ among → list_any (λ other. bytes_eq other name) before ≡ twice
    → device_refusal draft before name ≡ (if not known || among then Some Unknown else if twice then Some Twice else None)
unfolding device_refusal
device_judged draft before name known among twice is_known is_among is_twice = λ i. if not (is_known i) || is_among i then Some Unknown else if is_twice i then Some Twice else None

-- ---- what a message makes by a group, by tests

module _ {A : Type 0} (draft : Draft) (name : List ℕ) (range : Option Lengths) (group : List ℕ) (others : List (List ℕ)) (line : ℕ) (x : A) where
  pub grouped_judged : (differ many full long stand twice : Bool) → list_any (λ other. not (bytes_eq other group)) others ≡ differ
      → nat_lt MOST_MESSAGES (length (devices_of draft group)) ≡ many
      → nat_lt MOST_MESSAGES (length draft.plan.messages + length (devices_of draft group) * how_many range) ≡ full
      → list_any (is_long range) (device_names draft name group) ≡ long
      → list_any (is_message draft) (further_names range (device_names draft name group)) ≡ stand
      → repeats (further_names range (device_names draft name group)) ≡ twice
      → grouped_by draft name range (group ∷ others) line x
      ≡ (if differ then Err (errors.Unexpected line) else if many then Err (errors.TooMany line) else if full then Err (errors.TooMany line) else if long then Err (errors.Unexpected line) else if stand then Err (errors.Twice line) else if twice then Err (errors.Twice line) else Ok x)
  grouped_judged differ many full long stand twice they_differ are_many are_full are_long one_stands are_twice =
      λ i. if they_differ i then Err (errors.Unexpected line) else if are_many i then Err (errors.TooMany line) else if are_full i then Err (errors.TooMany line) else if are_long i then Err (errors.Unexpected line) else if one_stands i then Err (errors.Twice line) else if are_twice i then Err (errors.Twice line) else Ok x

pub names_over : {B : Type 0} (f : List ℕ → B) (names : List Name) → map f (map name_bytes names) ≡ map (λ name. f (name_bytes name)) names
names_over f [] = refl
names_over f (name ∷ names) = ap (λ them. f (name_bytes name) ∷ them) (names_over f names)
