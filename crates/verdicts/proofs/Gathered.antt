-- From what each worker found to what all found.
use Rattle.std.proofs.Common.{◌≡◌, ℕ, zero, suc, ◌<◌, length, List, [], ◌∷◌, ◌++◌, map, get_or, replicate, flat_map, All, IfOk, Result, Ok, Err, sym, refl, ap, ◌∙◌, subst, arith}
use Rattle.std.proofs.lemmas.List.Elements.{All-nil, All-cons, All-head, All-tail, All-append}
use Rattle.std.specs.List.Sorted.{IsPermutation}
use Rattle.std.proofs.lemmas.List.Sorted.{All-permutation}
use Rattle.std.proofs.lemmas.List.Concat.{flat_map-cons}
use Rattle.std.proofs.lemmas.List.FromFn.{length-range_with_len, get_or-range_with_len}
use Rattle.pair_queue.specs.Dispatch.{first_numbers}
use Rattle.verdicts.proofs.Ranges.{length_mapped, mapped_at}
use Rattle.pair_queue.specs.Seats.{Queue, fresh}
use Rattle.verdicts.specs.declared.parts.Found.{Found}
use Rattle.verdicts.specs.declared.parts.Job.{Job}
use Rattle.verdicts.specs.declared.parts.Part.{Part}
use Rattle.verdicts.specs.Parts.{IsFoundOf, IsPart, IsJob, HasNumbers, numbers_of, items_of, items_or_none}

pub all_jobs : (q : Queue) (k : ℕ) (jobs : List Job) → map (λ j. j.thief) jobs ≡ replicate k (fresh q) → All (IsJob q) jobs
all_jobs q zero [] e = All-nil (IsJob q)
all_jobs q (suc k) [] e = absurd cc
all_jobs q zero (j ∷ jobs) e = absurd cc
all_jobs q (suc k) (j ∷ jobs) e =
    let first : j.thief ≡ fresh q = cc in
    let rest : map (λ j. j.thief) jobs ≡ replicate k (fresh q) = cc in
    All-cons (IsJob q) j jobs (ap (λ s. s.queue) first, ap (λ s. s.taken) first) (all_jobs q k jobs rest)

value_at : {X Y : Type 0} (f : X → Y) (xs : List X) (i : ℕ) (d : Y) (e : X) → i < length xs → get_or (map f xs) i d ≡ f (get_or xs i e)
value_at f [] i d e lt = absurd (omega arith)
value_at f (x ∷ xs) zero d e lt = refl
value_at f (x ∷ xs) (suc i) d e lt = value_at f xs i d e (omega arith)

length_values : {X Y : Type 0} (f : X → Y) (xs : List X) → length (map f xs) ≡ length xs
length_values f [] = refl
length_values f (x ∷ xs) = let e = length_values f xs in omega arith

module _ {X : Type 0} (gives : ℕ → X → Type 0) where
  numbers_ok : {V E : Type 0} (items : V → List (Found X)) (taken : List ℕ) (r : Result V E) → IfOk r (λ v. IsFoundOf gives taken (items v)) → IfOk r (λ v. numbers_of (items v) ≡ taken)
  numbers_ok items taken (Ok v) h = h.0
  numbers_ok items taken (Err e) h = h

  pub part_numbers : (q : Queue) (p : Part X) → IsPart gives q p → HasNumbers q p
  part_numbers q p h = record { queue_is = h.queue_is; numbers = numbers_ok (λ v. v.items) p.thief.taken p.found h.found }

  found_ok : {V E : Type 0} (items : V → List (Found X)) (taken : List ℕ) (r : Result V E) → IfOk r (λ v. IsFoundOf gives taken (items v)) → All (λ f. gives f.number f.value) (items_or_none items r)
  found_ok items taken (Ok v) h = h.1
  found_ok items taken (Err e) h = All-nil (λ f. gives f.number f.value)

  pub all_found : (q : Queue) (parts : List (Part X)) → All (IsPart gives q) parts → All (λ f. gives f.number f.value) (flat_map items_of parts)
  all_found q [] h = All-nil (λ f. gives f.number f.value)
  all_found q (p ∷ parts) h =
      let P : Found X → Type 0 = λ f. gives f.number f.value in
      let first : IsPart gives q p = All-head (IsPart gives q) p parts h in
      let here = found_ok (λ v. v.items) p.thief.taken p.found first.found in
      let rest = all_found q parts (All-tail (IsPart gives q) p parts h) in
      subst (All P) (sym (flat_map-cons items_of p parts)) (All-append P (items_of p) (flat_map items_of parts) here rest)

  pub all_numbers : (q r : Queue) → r ≡ q → (parts : List (Part X)) → All (IsPart gives q) parts → All (HasNumbers r) parts
  all_numbers q r same parts h = λ k d lt. subst (λ (s : Queue). HasNumbers {X = X} s (get_or parts k d)) (sym same) (part_numbers q (get_or parts k d) (h k d lt))

  pub all_given : (q : Queue) (found : List (Found X)) (parts : List (Part X)) (all sorted : List (Found X)) → All (λ f. gives f.number f.value) found → All (IsPart gives q) parts
      → all ≡ found ++ flat_map items_of parts → IsPermutation all sorted → All (λ f. gives f.number f.value) sorted
  all_given q found parts all sorted first rest is moved =
      let P : Found X → Type 0 = λ f. gives f.number f.value in
      let every : All P all = subst (All P) (sym is) (All-append P found (flat_map items_of parts) first (all_found q parts rest)) in
      All-permutation P all sorted moved every

  -- what was found of 0 to n - 1, in order, at each place
  pub at_place : (n : ℕ) (found : List (Found X)) → IsFoundOf gives (first_numbers n) found → (i : ℕ) (d : X) → i < n → gives i (get_or (map (λ f. f.value) found) i d)
  at_place n [] h i d lt = let e : 0 ≡ length (first_numbers n) = ap length h.0 in let l = length-range_with_len 0 n in absurd (omega arith)
  at_place n (f ∷ found) h i d lt =
      let all : List (Found X) = f ∷ found in
      let len : length all ≡ n = sym (length_mapped (λ f. f.number) all) ∙ ap length h.0 ∙ length-range_with_len 0 n in
      let here : i < length all = omega arith in
      let number : (get_or all i f).number ≡ i =
      sym (mapped_at (λ f. f.number) all i 0 f here) ∙ ap (λ (xs : List ℕ). get_or xs i 0) h.0 ∙ get_or-range_with_len 0 n i 0 lt ∙ omega arith in
      let value : get_or (map (λ f. f.value) all) i d ≡ (get_or all i f).value = value_at (λ f. f.value) all i d f here in
      let given : gives (get_or all i f).number (get_or all i f).value = h.1 i f here in
      subst (λ (p : ℕ × X). gives p.0 p.1) (λ k. (number k, sym value k)) given

  pub as_many : (n : ℕ) (found : List (Found X)) → IsFoundOf gives (first_numbers n) found → length (map (λ f. f.value) found) ≡ n
  as_many n found h = length_values (λ f. f.value) found ∙ sym (length_mapped (λ f. f.number) found) ∙ ap length h.0 ∙ length-range_with_len 0 n
