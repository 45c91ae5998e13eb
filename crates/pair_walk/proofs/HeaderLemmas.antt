-- Two headers, by their addresses.
use Rattle.std.proofs.Common.{◌≡◌, ℕ, zero, suc, ◌<◌, Some, slice_get, List, [], ◌∷◌, ◌++◌, length, length-append, refl, sym, ◌∙◌, subst, arith, inl, inr, ◌⊎◌}
use Rattle.std.proofs.lemmas.Bool.{cases_lt}
use Rattle.message_tree.specs.declared.bits.Bit.{Bit}
use Rattle.message_tree.specs.declared.bits.Bit.TheVariants.{Zero, One}
use Rattle.message_tree.specs.Bits.{SplitAt, IsFirstSplit, NeverSplit}

get_front : (xs p : List Bit) (j : ℕ) → j < length xs → slice_get (xs ++ p) j ≡ slice_get xs j
get_front [] p j h = absurd (omega arith)
get_front (x ∷ xs) p zero h = refl
get_front (x ∷ xs) p (suc j) h = get_front xs p j (omega arith)

get_last : (xs : List Bit) (z : Bit) → slice_get (xs ++ z ∷ []) (length xs) ≡ Some z
get_last [] z = refl
get_last (x ∷ xs) z = get_last xs z

within : (xs : List Bit) (k : ℕ) (b : Bit) → slice_get xs k ≡ Some b → k < length xs
within [] k b h = cc
within (x ∷ xs) zero b h = omega arith
within (x ∷ xs) (suc k) b h = omega (arith, within xs k b h)

split_within : (xs ys : List Bit) (k : ℕ) → SplitAt xs ys k → (k < length xs) × (k < length ys)
split_within xs ys k (inl h) = (within xs k Zero h.0, within ys k One h.1)
split_within xs ys k (inr h) = (within xs k One h.0, within ys k Zero h.1)

split_longer : (xs ys p q : List Bit) (k : ℕ) → k < length xs → k < length ys → SplitAt xs ys k → SplitAt (xs ++ p) (ys ++ q) k
split_longer xs ys p q k a b (inl h) = inl (get_front xs p k a ∙ h.0, get_front ys q k b ∙ h.1)
split_longer xs ys p q k a b (inr h) = inr (get_front xs p k a ∙ h.0, get_front ys q k b ∙ h.1)

split_shorter : (xs ys p q : List Bit) (k : ℕ) → k < length xs → k < length ys → SplitAt (xs ++ p) (ys ++ q) k → SplitAt xs ys k
split_shorter xs ys p q k a b (inl h) = inl (sym (get_front xs p k a) ∙ h.0, sym (get_front ys q k b) ∙ h.1)
split_shorter xs ys p q k a b (inr h) = inr (sym (get_front xs p k a) ∙ h.0, sym (get_front ys q k b) ∙ h.1)

-- the first split of two addresses is that of the headers
pub first_in_header : (xs ys p q : List Bit) (k : ℕ) → IsFirstSplit xs ys k → IsFirstSplit (xs ++ p) (ys ++ q) k
first_in_header xs ys p q k f =
    let w = split_within xs ys k f.splits in
    record {
      splits = split_longer xs ys p q k w.0 w.1 f.splits;
      first = λ j h s. f.first j h (split_shorter xs ys p q j (omega (arith, w.0)) (omega (arith, w.1)) s);
    }

no_split_past : (xs ys : List Bit) (y z : Bit) (k : ℕ) → length xs ≡ length ys → SplitAt (xs ++ y ∷ []) (ys ++ z ∷ []) k → (SplitAt xs ys k) ⊎ (k ≡ length xs)
no_split_past xs ys y z k l s =
    let w = split_within (xs ++ y ∷ []) (ys ++ z ∷ []) k s in
    elim (cases_lt k (length xs)) [
      | inl lt ↦ inl (split_shorter xs ys (y ∷ []) (z ∷ []) k lt (omega (arith, l)) s)
      | inr le ↦ inr (omega (arith, w.0, length-append xs (y ∷ []), le))
    ]

same_last : (xs ys : List Bit) (z : Bit) → length xs ≡ length ys → SplitAt (xs ++ z ∷ []) (ys ++ z ∷ []) (length xs) → ⊥
same_last xs ys z l (inl h) =
    let a : Some z ≡ Some Zero = sym (get_last xs z) ∙ h.0 in
    let b : Some z ≡ Some One = sym (get_last ys z) ∙ subst (λ (m : ℕ). slice_get (ys ++ z ∷ []) m ≡ Some One) l h.1 in
    cc
same_last xs ys z l (inr h) =
    let a : Some z ≡ Some One = sym (get_last xs z) ∙ h.0 in
    let b : Some z ≡ Some Zero = sym (get_last ys z) ∙ subst (λ (m : ℕ). slice_get (ys ++ z ∷ []) m ≡ Some Zero) l h.1 in
    cc

-- two headers of one direction split only in their addresses
pub never_in_header : (xs ys : List Bit) (z : Bit) → length xs ≡ length ys → NeverSplit xs ys → NeverSplit (xs ++ z ∷ []) (ys ++ z ∷ [])
never_in_header xs ys z l n k s =
    elim (no_split_past xs ys z z k l s) [
      | inl earlier ↦ n k earlier
      | inr here ↦ same_last xs ys z l (subst (SplitAt (xs ++ z ∷ []) (ys ++ z ∷ [])) here s)
    ]

-- where two addresses don't split, the directions do
pub first_is_direction : (xs ys : List Bit) (y z : Bit) → length xs ≡ length ys → SplitAt (y ∷ []) (z ∷ []) 0 → NeverSplit xs ys → IsFirstSplit (xs ++ y ∷ []) (ys ++ z ∷ []) (length xs)
first_is_direction xs ys y z l s n =
    record {
      splits = elim s [
        | inl h ↦ inl (get_last xs y ∙ h.0, subst (λ (m : ℕ). slice_get (ys ++ z ∷ []) m ≡ Some One) (sym l) (get_last ys z ∙ h.1))
        | inr h ↦ inr (get_last xs y ∙ h.0, subst (λ (m : ℕ). slice_get (ys ++ z ∷ []) m ≡ Some Zero) (sym l) (get_last ys z ∙ h.1))
      ];
      first = λ j h t. elim (no_split_past xs ys y z j l t) [ inl earlier ↦ n j earlier | inr here ↦ absurd (omega arith) ];
    }
