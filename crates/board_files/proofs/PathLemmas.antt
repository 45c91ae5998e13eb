-- A path up to its last stroke.
use Rattle.std.proofs.Common.{◌≡◌, ℕ, zero, suc, ◌+◌, ◌-◌, ◌<◌, ◌≤◌, Bool, true, false, ◌||◌, ◌==◌, List, [], ◌∷◌, ◌++◌, refl, ap, sym, subst, ◌∙◌, arith, true≢false}
use Rattle.std.specs.Prelude.{if◌then◌else◌}
use Rattle.board_files.specs.Lists.{has_stroke, folder_of}

or_true : (b : Bool) → (b || true) ≡ true
or_true true = refl
or_true false = refl

if_false : {A : Type 0} (b : Bool) (x y : A) → b ≡ false → (if b then x else y) ≡ y
if_false true x y e = absurd (true≢false e)
if_false false x y e = refl

if_true : {A : Type 0} (b : Bool) (x y : A) → b ≡ true → (if b then x else y) ≡ x
if_true true x y e = refl
if_true false x y e = absurd (true≢false (sym e))

no_stroke : (path : List ℕ) → has_stroke path ≡ false → folder_of path ≡ []
no_stroke [] e = refl
no_stroke (byte ∷ path) e = if_false (has_stroke (byte ∷ path)) (byte ∷ folder_of path) [] e

stroke_in : (front back : List ℕ) → has_stroke (front ++ (47 ∷ back)) ≡ true
stroke_in [] back = refl
stroke_in (byte ∷ front) back = ap (λ b. (byte == 47) || b) (stroke_in front back) ∙ or_true (byte == 47)

last_stroke : (front back : List ℕ) → has_stroke back ≡ false → folder_of (front ++ (47 ∷ back)) ≡ front ++ (47 ∷ [])
last_stroke [] back e = ap (λ xs. 47 ∷ xs) (no_stroke back e)
last_stroke (byte ∷ front) back e =
    if_true (has_stroke (byte ∷ (front ++ (47 ∷ back)))) (byte ∷ folder_of (front ++ (47 ∷ back))) [] (stroke_in (byte ∷ front) back)
    ∙ ap (λ xs. byte ∷ xs) (last_stroke front back e)

pub stroke_last : (front : List ℕ) → folder_of (front ++ (47 ∷ [])) ≡ front ++ (47 ∷ [])
stroke_last front = last_stroke front [] refl

is_other : (byte : ℕ) → (byte ≡ 47 → ⊥) → (byte == 47) ≡ false
is_other byte other = grind arith

stroke_same : (front : List ℕ) (byte : ℕ) → (byte ≡ 47 → ⊥) → has_stroke (front ++ (byte ∷ [])) ≡ has_stroke front
stroke_same [] byte other = ap (λ b. b || false) (is_other byte other)
stroke_same (first ∷ front) byte other = ap (λ b. (first == 47) || b) (stroke_same front byte other)

pub other_last : (front : List ℕ) (byte : ℕ) → (byte ≡ 47 → ⊥) → folder_of (front ++ (byte ∷ [])) ≡ folder_of front
other_last [] byte other = no_stroke (byte ∷ []) (stroke_same [] byte other)
other_last (first ∷ front) byte other =
    ap (λ b. if b then first ∷ folder_of (front ++ (byte ∷ [])) else []) (stroke_same (first ∷ front) byte other)
    ∙ ap (λ xs. if has_stroke (first ∷ front) then first ∷ xs else []) (other_last front byte other)
