-- What adds to a controller.
use Rattle.std.proofs.Common.{◌≡◌, ℕ, ◌+◌, ◌<◌, suc, Bool, true, false, not, cond, List, [], ◌∷◌, ◌++◌, map, length, Option, Some, None, is_some, refl, ap, sym, ◌∙◌, subst, arith}
use Rattle.std.specs.Prelude.{if◌then◌else◌, get_or, set}
use Rattle.std.specs.List.{list_any, prefix_len}
use Rattle.std.specs.Str.{bytes_eq}
use Rattle.plan_core.proofs.StepLemmas.{list_any-map}
use Rattle.plan_core.specs.NameBytes.{name_bytes}
use Rattle.brief_text.specs.declared.boards.Listing.{Listing}
use Rattle.brief_text.specs.declared.boards.Never.{Never}
use Rattle.brief_text.specs.Drafts.{extended}
use Rattle.brief_text.specs.Judging.{is_side_of}
use Rattle.brief_text.specs.Standing.{listing, side, sides}
use Rattle.brief_text.specs.Trees.{Side}
use Rattle.brief_text.specs.declared.syntax.Party.{Party}
use Rattle.std.specs.Option.{option_map}

abbrev pub has_other_name : List ℕ → Listing → Bool
has_other_name name it = not (bytes_eq name (name_bytes it.name))

abbrev place_by : Bool → ℕ → ℕ
place_by t k = cond (not t) (suc k) 0

-- the controller in this place of these lists more
abbrev Longer : List ℕ → List (List ℕ) → List Listing → Listing → Listing → ℕ → Type 0
Longer name more items new d k = k < length items → name_bytes new.name ≡ name_bytes (get_or items k d).name
    → map name_bytes new.messages.items ≡ map name_bytes (get_or items k d).messages.items ++ more
    → map listing (set items k new) ≡ extended name more (map listing items)

first_longer : (name : List ℕ) (more : List (List ℕ)) (items : List Listing) (new d : Listing) → Longer name more items new d (prefix_len (has_other_name name) items)
first_longer name more [] new d = λ lt same longer. absurd (omega (arith, lt))
first_longer name more (it ∷ items) new d =
    let next : 1 + prefix_len (has_other_name name) items ≡ suc (prefix_len (has_other_name name) items) = omega arith in
    subst (λ (k : ℕ). Longer name more (it ∷ items) new d (cond (not (bytes_eq name (name_bytes it.name))) k 0)) (sym next)
    (by (bytes_eq name (name_bytes it.name)) (first_longer name more items new d))
  where
    by : (t : Bool) → Longer name more items new d (prefix_len (has_other_name name) items)
        → place_by t (prefix_len (has_other_name name) items) < suc (length items) → name_bytes new.name ≡ name_bytes (get_or (it ∷ items) (place_by t (prefix_len (has_other_name name) items)) d).name
        → map name_bytes new.messages.items ≡ map name_bytes (get_or (it ∷ items) (place_by t (prefix_len (has_other_name name) items)) d).messages.items ++ more
        → map listing (set (it ∷ items) (place_by t (prefix_len (has_other_name name) items)) new) ≡ (if t then (name_bytes it.name, map name_bytes it.messages.items ++ more) ∷ map listing items else listing it ∷ extended name more (map listing items))
    by true others less e f = λ i. (e i, f i) ∷ map listing items
    by false others less e f = ap (λ (them : List (List ℕ × List (List ℕ))). listing it ∷ them) (others (omega (arith, less)) e f)

pub extends_at : (name : List ℕ) (more : List (List ℕ)) (items : List Listing) (new d : Listing) (k : ℕ) → k ≡ prefix_len (has_other_name name) items → Longer name more items new d k
extends_at name more items new d k is = subst (Longer name more items new d) (sym is) (first_longer name more items new d)

pub sides_of : (name : List ℕ) (nevers : List Never) → list_any (is_side_of name) (map sides nevers) ≡ list_any (λ (it : Never). is_side_of name (sides it)) nevers
sides_of name nevers = list_any-map (is_side_of name) sides nevers

pub labels_of_board : (name : List ℕ) (labels : List Party) → list_any (λ (label : Side). bytes_eq label.controller name) (map side labels) ≡ list_any (λ (it : Party). bytes_eq (side it).controller name) labels
labels_of_board name labels = list_any-map (λ (label : Side). bytes_eq label.controller name) side labels

pub found_as : {A B : Type 0} (f : A → B) (o : Option A) (p : Option B) → option_map f o ≡ p → is_some p ≡ is_some o
found_as {A} {B} f o p same = ap is_some (sym same) ∙ by o
  where
    by : (q : Option A) → is_some (option_map f q) ≡ is_some q
    by None = refl
    by (Some x) = refl
