-- What labels split, and which parts are apart.
use Rattle.std.proofs.Common.{◌≡◌, ℕ, suc, ◌+◌, ◌-◌, ◌<◌, ◌≤◌, Bool, true, false, ◌&&◌, ◌||◌, List, [], ◌∷◌, ◌++◌, map, take, drop, length, get_or, refl, ap, sym, ◌∙◌, arith}
use Rattle.std.proofs.Math.Seq.{take-length, drop-cons}
use Rattle.std.specs.Prelude.{if◌then◌else◌}
use Rattle.std.specs.List.{filter, flat_map, list_any}
use Rattle.std.proofs.lemmas.List.{map-append, nil_from_length, length-drop}
use Rattle.std.proofs.lemmas.List.Elements.{filter-append}
use Rattle.brief_text.specs.declared.syntax.Party.{Party}
use Rattle.brief_text.specs.Drafts.{Draft}
use Rattle.brief_text.specs.Splitting.{Part, label_part, rest_part, sends_any, split_by, are_of_one, pairs_among, pairs_between, part_name}
use Rattle.brief_text.specs.Standing.{side}
use Rattle.brief_text.specs.Parting.{names_of}
use Rattle.brief_text.specs.Trees.{Side}
use Rattle.brief_text.proofs.PushLemmas.{flat_where, filter_each}

pub any_where : {A B : Type 0} (f : A → B) (p q : B → Bool) (xs : List A) → list_any q (filter p (map f xs)) ≡ list_any (λ x. p (f x) && q (f x)) xs
any_where f p q [] = refl
any_where f p q (x ∷ xs) = by (p (f x)) (any_where f p q xs)
  where
    by : (t : Bool) → list_any q (filter p (map f xs)) ≡ list_any (λ x. p (f x) && q (f x)) xs
        → list_any q (if t then f x ∷ filter p (map f xs) else filter p (map f xs)) ≡ (t && q (f x) || list_any (λ x. p (f x) && q (f x)) xs)
    by true same = ap (λ t. q (f x) || t) same
    by false same = same

-- ---- labels of a controller

-- none is named
pub none_where : {A B : Type 0} (f : A → B) (p : B → Bool) (xs : List A) → list_any (λ x. p (f x)) xs ≡ false → filter p (map f xs) ≡ []
none_where f p [] none = refl
none_where {A} {B} f p (x ∷ xs) none = by (p (f x)) none (none_where f p xs)
  where
    by : (t : Bool) → (t || list_any (λ x. p (f x)) xs) ≡ false → (list_any (λ x. p (f x)) xs ≡ false → filter p (map f xs) ≡ []) → (if t then f x ∷ filter p (map f xs) else filter p (map f xs)) ≡ []
    by true h rest = absurd cc
    by false h rest = rest h

module _ (draft : Draft) (controller : List ℕ) (listed : List (List ℕ)) where
  pub whole_by_none : (labels : List Side) → labels ≡ [] → split_by draft labels controller listed ≡ split_by draft [] controller listed
  whole_by_none labels none = ap (λ ls. split_by draft ls controller listed) none

  abbrev pub split_of : List Side → List Part
  split_of labels = filter sends_any (rest_part draft labels listed controller ∷ map (label_part draft labels listed) labels)

  -- one is named
  pub split_by_one : (labels : List Party) (p : Side → Bool) → list_any (λ it. p (side it)) labels ≡ true → split_by draft (filter p (map side labels)) controller listed ≡ split_of (filter p (map side labels))
  split_by_one labels p some = by (filter p (map side labels)) refl
    where
      by : (them : List Side) → filter p (map side labels) ≡ them → split_by draft them controller listed ≡ split_of them
      by [] none = absurd (let no : false ≡ true = sym (ap (list_any (λ s. true)) none) ∙ any_where side p (λ s. true) labels ∙ always labels ∙ some in cc)
        where
          yes : (t : Bool) → (t && true) ≡ t
          yes true = refl
          yes false = refl

          always : (xs : List Party) → list_any (λ it. p (side it) && true) xs ≡ list_any (λ it. p (side it)) xs
          always [] = refl
          always (x ∷ xs) = λ i. yes (p (side x)) i || always xs i
      by (label ∷ others) same = refl

  pub parts_pushed : (labels : List Side) (parties : List Party) (p : Side → Bool) → labels ≡ filter p (map side parties)
      → filter sends_any (rest_part draft labels listed controller ∷ []) ++ flat_map (λ it. if p (side it) then filter sends_any (label_part draft labels listed (side it) ∷ []) else []) parties ≡ split_of labels
  parts_pushed labels parties p are =
      ap (λ l. rest ++ l) (flat_where side p (λ s. filter sends_any (label_part draft labels listed s ∷ [])) parties
      ∙ ap (flat_map (λ s. filter sends_any (label_part draft labels listed s ∷ []))) (sym are)
      ∙ sym (filter_each sends_any (label_part draft labels listed) labels))
      ∙ sym (filter-append sends_any (rest_part draft labels listed controller ∷ []) (map (label_part draft labels listed) labels))
    where
      rest : List Part
      rest = filter sends_any (rest_part draft labels listed controller ∷ [])

-- ---- parts that are apart

pub among_more : (one : Part) (others : List Part)
    → map names_of (filter are_of_one (pairs_among (one ∷ others))) ≡ map names_of (filter are_of_one (map (λ other. (one, other)) others)) ++ map names_of (filter are_of_one (pairs_among others))
among_more one others =
    ap (map names_of) (filter-append are_of_one (map (λ other. (one, other)) others) (pairs_among others))
    ∙ map-append names_of (filter are_of_one (map (λ other. (one, other)) others)) (filter are_of_one (pairs_among others))

names_with : (one : Part) (others : List Part) → map names_of (map (λ other. (one, other)) others) ≡ map (λ second. (part_name one, second)) (map part_name others)
names_with one [] = refl
names_with one (other ∷ others) = ap (λ l. (part_name one, part_name other) ∷ l) (names_with one others)

pub names_between : (ones others : List Part) → map names_of (pairs_between ones others) ≡ pairs_between (map part_name ones) (map part_name others)
names_between [] others = refl
names_between (one ∷ ones) others =
    map-append names_of (map (λ other. (one, other)) others) (pairs_between ones others)
    ∙ (λ i. names_with one others i ++ names_between ones others i)

pub names_each : {A B C D : Type 0} (k : C → D) (h : B → List C) (f : A → B) (xs : List A) → flat_map (λ x. map k (h (f x))) xs ≡ map k (flat_map h (map f xs))
names_each k h f [] = refl
names_each k h f (x ∷ xs) = ap (λ l. map k (h (f x)) ++ l) (names_each k h f xs) ∙ sym (map-append k (h (f x)) (flat_map h (map f xs)))

pub with_each : {A B C : Type 0} (f : A → B) (one : C) (others : List A) → map {B = C × B} (λ it. (one, f it)) others ≡ map {B = C × B} (λ other. (one, other)) (map f others)
with_each f one [] = refl
with_each f one (it ∷ others) = ap (λ l. (one, f it) ∷ l) (with_each f one others)

-- ---- what is left of a list

pub first_and_rest : {A : Type 0} (xs : List A) (x : A) → 1 ≤ length xs → x ≡ get_or xs 0 x → xs ≡ x ∷ take (length xs - 1) (drop 1 xs)
first_and_rest [] x some is = absurd (omega arith)
first_and_rest (y ∷ ys) x some is =
    let one_less : suc (length ys) - 1 ≡ length ys = omega arith in
    (λ i. sym is i ∷ sym (ap (λ n. take n ys) one_less ∙ take-length ys) i)

pub none_below : {A : Type 0} (xs : List A) → length xs < 1 → xs ≡ []
none_below [] less = refl
none_below (x ∷ xs) less = absurd (omega (arith, less))

pub drop_one : {A : Type 0} (xs : List A) (i : ℕ) (x : A) → i < length xs → x ≡ get_or xs i x → drop i xs ≡ x ∷ drop (i + 1) xs
drop_one xs i x within is =
    let next : i + 1 ≡ suc i = omega arith in
    drop-cons xs i x within ∙ (λ k. sym is k ∷ drop (sym next k) xs)

pub drop_none : {A : Type 0} (xs : List A) (i : ℕ) → length xs ≤ i → drop i xs ≡ []
drop_none xs i past =
    let none : length (drop i xs) ≡ 0 = length-drop i xs ∙ omega (arith, past) in
    nil_from_length (drop i xs) none
