-- Lists that loops make, item by item.
use Rattle.std.proofs.Common.{◌≡◌, ℕ, suc, ◌+◌, ◌-◌, ◌<◌, List, [], ◌∷◌, ◌++◌, map, ap, sym, ◌∙◌, arith}
use Rattle.std.specs.List.{range_with_len}
use Rattle.std.proofs.lemmas.List.{append_assoc, append-nil}

-- of n numbers from a on, k are done
module _ {A : Type 0} (f : ℕ → A) (a n : ℕ) where
  abbrev pub with_rest : List A → ℕ → List A
  with_rest done k = done ++ map f (range_with_len (a + k) (n - k))

  pub none_done : with_rest [] 0 ≡ map f (range_with_len a n)
  none_done =
      let first : a + 0 ≡ a = omega arith in
      let all : n - 0 ≡ n = omega arith in
      ap (λ b. map f (range_with_len b (n - 0))) first ∙ ap (λ m. map f (range_with_len a m)) all

  pub one_more : (done : List A) (k : ℕ) (x : A) → k < n → x ≡ f (a + k) → with_rest (done ++ x ∷ []) (k + 1) ≡ with_rest done k
  one_more done k x within is =
      let less : n - k ≡ suc (n - (k + 1)) = omega (arith, within) in
      let next : a + k + 1 ≡ a + (k + 1) = omega arith in
      append_assoc done (x ∷ []) (map f (range_with_len (a + (k + 1)) (n - (k + 1))))
      ∙ ap (λ y. done ++ (y ∷ map f (range_with_len (a + (k + 1)) (n - (k + 1))))) is
      ∙ ap (λ b. done ++ (f (a + k) ∷ map f (range_with_len b (n - (k + 1))))) (sym next)
      ∙ ap (λ m. done ++ map f (range_with_len (a + k) m)) (sym less)

  pub all_done : (done : List A) (k : ℕ) → k ≡ n → with_rest done k ≡ done
  all_done done k is =
      let none : n - k ≡ 0 = omega (arith, is) in
      ap (λ m. done ++ map f (range_with_len (a + k) m)) none ∙ append-nil done
