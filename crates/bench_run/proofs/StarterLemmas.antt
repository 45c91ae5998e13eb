-- One label more.
use Rattle.std.proofs.Common.{◌≡◌, ℕ, List, [], ◌∷◌, ◌++◌, Bor, map, refl, sym, ap, subst}
use Rattle.plan_core.specs.Contents.{Contents}
use Rattle.bench_run.specs.Starters.{IsNumberOf, AreNumbersOf}

next_number : (plan : Contents) (labels : List (List ℕ)) (numbers : List ℕ) (label : List ℕ) (n : ℕ) → AreNumbersOf plan labels numbers → IsNumberOf plan label n → AreNumbersOf plan (labels ++ label ∷ []) (numbers ++ n ∷ [])
next_number plan [] [] label n all one = (one, tt)
next_number plan [] (m ∷ ms) label n all one = absurd all
next_number plan (l ∷ ls) [] label n all one = absurd all
next_number plan (l ∷ ls) (m ∷ ms) label n all one = (all.0, next_number plan ls ms label n all.1 one)

pub label_more : (plan : Contents) (labels : List (Bor (List ℕ))) (label : Bor (List ℕ)) (numbers more : List ℕ) (n : ℕ) → AreNumbersOf plan (map (λ x. x.now) labels) numbers → IsNumberOf plan label.now n → more ≡ numbers ++ n ∷ [] →
    AreNumbersOf plan (map (λ x. x.now) (labels ++ label ∷ [])) more
label_more plan labels label numbers more n all one same =
    subst (AreNumbersOf plan (map (λ x. x.now) (labels ++ label ∷ []))) (sym same)
    (subst (λ (ls : List (List ℕ)). AreNumbersOf plan ls (numbers ++ n ∷ [])) (sym (mapped labels label)) (next_number plan (map (λ x. x.now) labels) numbers label.now n all one))
  where
    mapped : (xs : List (Bor (List ℕ))) (x : Bor (List ℕ)) → map (λ y. y.now) (xs ++ x ∷ []) ≡ map (λ y. y.now) xs ++ x.now ∷ []
    mapped [] x = refl
    mapped (y ∷ ys) x = ap (λ (zs : List (List ℕ)). y.now ∷ zs) (mapped ys x)
