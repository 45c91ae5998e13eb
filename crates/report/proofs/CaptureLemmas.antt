-- Captures: lists that are told one item after another.
use Rattle.std.proofs.Common.{◌≡◌, ℕ, zero, suc, ◌+◌, ◌<◌, List, [], ◌∷◌, ◌++◌, length, map, take, slice_index_or, arith, ap, sym, ◌∙◌, subst}
use Rattle.std.proofs.lemmas.List.{append_assoc}
use Rattle.std.specs.List.{AllZip}

pub zip_at : {X Y : Type 0} (R : X → Y → Type 0) (xs : List X) (ys : List Y) (k : ℕ) (x : X) (y : Y) → AllZip R xs ys → k < length xs → R (slice_index_or xs k x) (slice_index_or ys k y)
zip_at R [] ys k x y h l = absurd (omega (arith, l))
zip_at R (a ∷ ds) [] k x y h l = absurd h
zip_at R (a ∷ ds) (b ∷ bs) zero x y h l = h.0
zip_at R (a ∷ ds) (b ∷ bs) (suc k) x y h l = zip_at R ds bs k x y h.1 (omega (arith, l))

snoc_take : {X Y : Type 0} (f : X → Y) (xs : List X) (k : ℕ) (x : X) → k < length xs → x ≡ slice_index_or xs k x → map f (take k xs) ++ f x ∷ [] ≡ map f (take (suc k) xs)
snoc_take f [] k x l e = absurd (omega (arith, l))
snoc_take f (a ∷ xs) zero x l e = ap (λ y. f y ∷ []) e
snoc_take f (a ∷ xs) (suc k) x l e = ap (λ ys. f a ∷ ys) (snoc_take f xs k x (omega (arith, l)) e)

next : (k : ℕ) → suc k ≡ k + 1
next k = omega arith

-- one more item of those that were told
pub one_more_told : {X Y : Type 0} (f : X → Y) (ts : List Y) (xs : List X) (k : ℕ) (x : X) → k < length xs → x ≡ slice_index_or xs k x → (ts ++ map f (take k xs)) ++ f x ∷ [] ≡ ts ++ map f (take (k + 1) xs)
one_more_told f ts xs k x l e =
    append_assoc ts (map f (take k xs)) (f x ∷ [])
    ∙ ap (λ us. ts ++ us) (snoc_take f xs k x l e ∙ ap (λ n. map f (take n xs)) (next k))

-- what is said of the lists, place by place, is said of what stands at one place
pub said_at : {X Y Z : Type 0} (items : Y → Z) (P : X → Z → Type 0) (xs : List X) (ys : List Y) (k : ℕ) (x : X) (y : Y) (z : Z) → AllZip (λ a b. P a (items b)) xs ys → k < length xs → x ≡ slice_index_or xs k x → y ≡ slice_index_or ys k y → z ≡ items y → P x z
said_at items P xs ys k x y z h l ex ey ez =
    subst (λ w. P x w) (sym ez)
    (subst (λ b. P x (items b)) (sym ey)
    (subst (λ a. P a (items (slice_index_or ys k y))) (sym ex)
    (zip_at (λ a b. P a (items b)) xs ys k x y h l)))
