-- An entry of a map, as a plan sees it.
use Rattle.std.proofs.Common.{◌≡◌, ℕ, ◌+◌, Bool, not, cond, nat_lt, List, [], ◌∷◌, length, map, position, Option, Some, None, slice_get, refl, sym, ◌∙◌, ap}
use Rattle.std.specs.List.{prefix_len}
use Rattle.std.proofs.lemmas.List.{length-map}
use Rattle.std.specs.Borrow.{Bor}
use Rattle.std.specs.Map.{keys_of, values_of}
use Rattle.std.specs.Map.Iter.{deref_pair}
use Rattle.std.specs.Option.{option_map}
use Rattle.std.proofs.lemmas.Option.{slice_get-map}
use Rattle.std.specs.declared.vec.Vec.{Vec}
use Rattle.message_tree.specs.declared.tree.Frame.{Frame}
use Rattle.plan_core.specs.declared.names.Name.{Name}
use Rattle.plan_core.specs.NameBytes.{name_bytes}
use Rattle.plan_core.specs.Parts.{message_of, controller_of, interrupt_of}

slice_get-map_some : {X Y : Type 0} (f : X → Y) (xs : List X) (k : ℕ) (x : X) → slice_get xs k ≡ Some x → slice_get (map f xs) k ≡ Some (f x)
slice_get-map_some f xs k x here = slice_get-map f xs k ∙ ap (option_map f) here

module _ {K V X : Type 0} (view : K × V → List ℕ × X) (entries : List (K × V)) (k : ℕ) (r : Option (Bor K × Bor V)) (p : Bor K × Bor V)
    (entry : option_map deref_pair r ≡ slice_get entries k) (is : r ≡ Some p) where
  viewed : slice_get (map view entries) k ≡ Some (view (p.0.now, p.1.now))
  viewed = slice_get-map_some view entries k (p.0.now, p.1.now) (sym entry ∙ ap (option_map deref_pair) is)

  -- what `get_index` lends
  pub key_at : slice_get (keys_of (map view entries)) k ≡ Some (view (p.0.now, p.1.now)).0
  key_at = slice_get-map_some (λ e. e.0) (map view entries) k (view (p.0.now, p.1.now)) viewed

  pub value_at : slice_get (values_of (map view entries)) k ≡ Some (view (p.0.now, p.1.now)).1
  value_at = slice_get-map_some (λ e. e.1) (map view entries) k (view (p.0.now, p.1.now)) viewed

module _ {X Y : Type 0} (p : Y → Bool) (f : X → Y) where
  prefix_len-map : (xs : List X) → prefix_len (λ y. not (p y)) (map f xs) ≡ prefix_len (λ x. not (p (f x))) xs
  prefix_len-map [] = refl
  prefix_len-map (x ∷ xs) = ap (λ n. cond (not (p (f x))) (1 + n) 0) (prefix_len-map xs)

  pub position-map : (xs : List X) → position p (map f xs) ≡ position (λ x. p (f x)) xs
  position-map xs =
      ap (λ n. cond (nat_lt n (length (map f xs))) (Some n) None) (prefix_len-map xs)
      ∙ ap (λ n. cond (nat_lt (prefix_len (λ x. not (p (f x))) xs) n) (Some (prefix_len (λ x. not (p (f x))) xs)) None) (length-map xs f)

-- the names of the entries, as a plan sees them
names_of : {K V X : Type 0} (view : K × V → List ℕ × X) (name : K → List ℕ) → ((e : K × V) → (view e).0 ≡ name e.0) → (entries : List (K × V)) → keys_of (map view entries) ≡ map name (keys_of entries)
names_of view name same [] = refl
names_of view name same (e ∷ es) = λ i. same e i ∷ names_of view name same es i

pub names_of_messages : (entries : List (Name × Frame)) → keys_of (map message_of entries) ≡ map name_bytes (keys_of entries)
names_of_messages entries = names_of message_of name_bytes (λ e. refl) entries

pub names_of_controllers : {Z : Type 0} (entries : List (Name × Vec ℕ Z)) → keys_of (map controller_of entries) ≡ map name_bytes (keys_of entries)
names_of_controllers entries = names_of controller_of name_bytes (λ e. refl) entries

pub names_of_interrupts : (entries : List (Name × ℕ)) → keys_of (map interrupt_of entries) ≡ map name_bytes (keys_of entries)
names_of_interrupts entries = names_of interrupt_of name_bytes (λ e. refl) entries
