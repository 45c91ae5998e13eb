-- Two texts with `_` between them.
use Rattle.std.proofs.Common.{◌≡◌, ℕ, Bool, true, false, List, [], ◌∷◌, ◌++◌, codes, refl, ap, sym, ◌∙◌}
use Rattle.std.specs.Str.{bytes_eq}
use Rattle.std.proofs.lemmas.List.{append_assoc}
use Rattle.plan_core.proofs.BuildingLemmas.{bytes_eq-same, same-bytes_eq}

-- a test that says whether two texts are the same
same_test : (b : Bool) (x y : List ℕ) → (b ≡ true → x ≡ y) → (x ≡ y → b ≡ true) → b ≡ bytes_eq x y
same_test true x y f g = sym (bytes_eq-same x y (f refl))
same_test false x y f g = by (bytes_eq x y) refl
  where
    by : (t : Bool) → bytes_eq x y ≡ t → false ≡ t
    by false e = refl
    by true e = g (same-bytes_eq x y e)

cancel : (front x y : List ℕ) → front ++ x ≡ front ++ y → x ≡ y
cancel [] x y e = e
cancel (byte ∷ front) x y e = cancel front x y (let same : byte ∷ (front ++ x) ≡ byte ∷ (front ++ y) = e in cc)

module _ (first second text : List ℕ) where
  pub joined : (rest after : List ℕ) → first ++ rest ≡ text → codes "_" ++ after ≡ rest → bytes_eq after second ≡ bytes_eq text (first ++ codes "_" ++ second)
  joined rest after e f = same_test (bytes_eq after second) text (first ++ codes "_" ++ second)
      (λ h. sym whole ∙ ap (λ s. first ++ codes "_" ++ s) (same-bytes_eq after second h))
      (λ h. bytes_eq-same after second (cancel (first ++ codes "_") after second (whole ∙ h)))
    where
      whole : first ++ codes "_" ++ after ≡ text
      whole = append_assoc first (codes "_") after ∙ ap (λ r. first ++ r) f ∙ e

  pub no_front : ((rest : List ℕ) → text ≡ first ++ rest → ⊥) → false ≡ bytes_eq text (first ++ codes "_" ++ second)
  no_front nowhere = same_test false text (first ++ codes "_" ++ second) (λ h. absurd cc) (λ h. absurd (nowhere (codes "_" ++ second) (h ∙ append_assoc first (codes "_") second)))

  pub no_stroke : (rest : List ℕ) → first ++ rest ≡ text → ((after : List ℕ) → rest ≡ codes "_" ++ after → ⊥) → false ≡ bytes_eq text (first ++ codes "_" ++ second)
  no_stroke rest e nowhere = same_test false text (first ++ codes "_" ++ second) (λ h. absurd cc)
      (λ h. absurd (nowhere second (cancel first rest (codes "_" ++ second) (e ∙ h ∙ append_assoc first (codes "_") second))))
