-- What adds to a controller changes it alone.
use Rattle.std.proofs.Common.{◌≡◌, ℕ, ◌+◌, ◌⊎◌, inl, inr, Bool, true, false, cond, List, [], ◌∷◌, ◌++◌, length, Some, refl, ap, sym, ◌∙◌, arith}
use Rattle.std.specs.Prelude.{if◌then◌else◌}
use Rattle.std.specs.List.{list_any, filter, flat_map, sum_by}
use Rattle.std.specs.Map.{lookup, keys_of}
use Rattle.std.specs.Str.{bytes_eq}
use Rattle.std.proofs.lemmas.List.{length-append}
use Rattle.std.proofs.lemmas.List.Sums.{sum_by-cons}
use Rattle.plan_core.proofs.BuildingLemmas.{same-bytes_eq}
use Rattle.brief_text.specs.Drafts.{Draft, extended}
use Rattle.brief_text.specs.Splitting.{Part, labels_of, parts_of, split_by}
use Rattle.brief_text.specs.Trees.{Side}
use Rattle.text_laws.proofs.Membership.{In, or_neither}
use Rattle.text_laws.proofs.SoundDrafts.{Listings}

abbrev Entry : Type 0
Entry = List ℕ × List (List ℕ)

some_is : (x y : List (List ℕ)) → Some x ≡ Some y → x ≡ y
some_is x y e = cc

-- what stands after one controller, by whether it has the name
abbrev stretched : List ℕ → List (List ℕ) → Bool → Entry → Listings → Listings
stretched name more t first rest = if t then (first.0, first.1 ++ more) ∷ rest else first ∷ extended name more rest

pub extended_keys : (name : List ℕ) (more : List (List ℕ)) (cs : Listings) → keys_of (extended name more cs) ≡ keys_of cs
extended_keys name more [] = refl
extended_keys name more (c ∷ cs) = by (bytes_eq name c.0) (extended_keys name more cs)
  where
    by : (t : Bool) → keys_of (extended name more cs) ≡ keys_of cs → keys_of (stretched name more t c cs) ≡ c.0 ∷ keys_of cs
    by true rest = refl
    by false rest = ap (λ (keys : List (List ℕ)). c.0 ∷ keys) rest

pub extended_in : (name : List ℕ) (more has : List (List ℕ)) (c : Entry) (cs : Listings) → lookup (bytes_eq name) cs ≡ Some has → In c (extended name more cs) → In c cs ⊎ (c.1 ≡ has ++ more)
extended_in name more has c [] found h = inl h
extended_in name more has c (d ∷ cs) found h = by (bytes_eq name d.0) found h (extended_in name more has c cs)
  where
    by : (t : Bool) → (if t then Some d.1 else lookup (bytes_eq name) cs) ≡ Some has → In c (stretched name more t d cs)
        → (lookup (bytes_eq name) cs ≡ Some has → In c (extended name more cs) → In c cs ⊎ (c.1 ≡ has ++ more)) → In c (d ∷ cs) ⊎ (c.1 ≡ has ++ more)
    by true e (inl same) rest = inr (ap (λ (x : Entry). x.1) same ∙ ap (λ (x : List (List ℕ)). x ++ more) (some_is d.1 has e))
    by true e (inr g) rest = inl (inr g)
    by false e (inl same) rest = inl (inl same)
    by false e (inr g) rest = elim (rest e g) [ inl a ↦ inl (inr a) | inr b ↦ inr b ]

pub extended_sum : (name : List ℕ) (more has : List (List ℕ)) (cs : Listings) → lookup (bytes_eq name) cs ≡ Some has
    → sum_by (λ (c : Entry). length c.1) (extended name more cs) ≡ sum_by (λ (c : Entry). length c.1) cs + length more
extended_sum name more has [] found = absurd cc
extended_sum name more has (d ∷ cs) found = by (bytes_eq name d.0) found (extended_sum name more has cs)
  where
    by : (t : Bool) → (if t then Some d.1 else lookup (bytes_eq name) cs) ≡ Some has
        → (lookup (bytes_eq name) cs ≡ Some has → sum_by (λ (c : Entry). length c.1) (extended name more cs) ≡ sum_by (λ (c : Entry). length c.1) cs + length more)
        → sum_by (λ (c : Entry). length c.1) (stretched name more t d cs) ≡ sum_by (λ (c : Entry). length c.1) (d ∷ cs) + length more
    by true e rest =
        let whole = sum_by-cons (λ (c : Entry). length c.1) (d.0, d.1 ++ more) cs in
        let before = sum_by-cons (λ (c : Entry). length c.1) d cs in
        let size = length-append d.1 more in
        omega (arith, whole, before, size)
    by false e rest =
        let whole = sum_by-cons (λ (c : Entry). length c.1) d (extended name more cs) in
        let before = sum_by-cons (λ (c : Entry). length c.1) d cs in
        let others = rest e in
        omega (arith, whole, before, others)

-- ---- parts, where those of this controller are one, whatever it lists

module _ (f g : Entry → List Part) (same : (c : Entry) → f c ≡ g c) where
  all_same : (cs : Listings) → length (flat_map f cs) ≡ length (flat_map g cs)
  all_same [] = refl
  all_same (c ∷ cs) =
      let new = length-append (f c) (flat_map f cs) in
      let old = length-append (g c) (flat_map g cs) in
      let first = ap (λ (ps : List Part). length ps) (same c) in
      let others = all_same cs in
      omega (arith, new, old, first, others)

  module _ (name : List ℕ) (more : List (List ℕ)) (one : (listed : List (List ℕ)) → length (g (name, listed)) ≡ 1) where
    only : (n : List ℕ) (listed : List (List ℕ)) → bytes_eq name n ≡ true → length (g (n, listed)) ≡ 1
    only n listed is = ap (λ (m : List ℕ). length (g (m, listed))) (sym (same-bytes_eq name n is)) ∙ one listed

    pub extended_parts : (cs : Listings) → length (flat_map f (extended name more cs)) ≡ length (flat_map g cs)
    extended_parts [] = refl
    extended_parts (c ∷ cs) = by (bytes_eq name c.0) refl (extended_parts cs)
      where
        by : (t : Bool) → bytes_eq name c.0 ≡ t → length (flat_map f (extended name more cs)) ≡ length (flat_map g cs) → length (flat_map f (stretched name more t c cs)) ≡ length (flat_map g (c ∷ cs))
        by true is rest =
            let new = length-append (f (c.0, c.1 ++ more)) (flat_map f cs) in
            let old = length-append (g c) (flat_map g cs) in
            let first = ap (λ (ps : List Part). length ps) (same (c.0, c.1 ++ more)) in
            let now_one = only c.0 (c.1 ++ more) is in
            let was_one = only c.0 c.1 is in
            let others = all_same cs in
            omega (arith, new, old, first, now_one, was_one, others)
        by false is rest =
            let new = length-append (f c) (flat_map f (extended name more cs)) in
            let old = length-append (g c) (flat_map g cs) in
            let first = ap (λ (ps : List Part). length ps) (same c) in
            omega (arith, new, old, first, rest)

-- what controllers list changes no label
pub same_parts_of : (draft : Draft) (controllers : Listings) (c : Entry) → parts_of (record draft { controllers = controllers }) c ≡ parts_of draft c
same_parts_of draft controllers c = by (labels_of draft c.0)
  where
    by : (labels : List Side) → split_by (record draft { controllers = controllers }) labels c.0 c.1 ≡ split_by draft labels c.0 c.1
    by [] = refl
    by (s ∷ labels) = refl

pub none_where : {A : Type 0} (p : A → Bool) (xs : List A) → list_any p xs ≡ false → filter p xs ≡ []
none_where p [] none = refl
none_where {A} p (x ∷ xs) none = by (p x) (or_neither (p x) (list_any p xs) none) (none_where p xs)
  where
    by : (t : Bool) → (p x ≡ false) × (list_any p xs ≡ false) → (list_any p xs ≡ false → filter p xs ≡ []) → cond (p x) (x ∷ filter p xs) (filter p xs) ≡ []
    by t e rest = ap (λ (b : Bool). cond b (x ∷ filter p xs) (filter p xs)) e.0 ∙ rest e.1

pub one_part_of : (draft : Draft) (name : List ℕ) (listed : List (List ℕ)) → labels_of draft name ≡ [] → length (parts_of draft (name, listed)) ≡ 1
one_part_of draft name listed none = ap (λ (labels : List Side). length (split_by draft labels name listed)) none
