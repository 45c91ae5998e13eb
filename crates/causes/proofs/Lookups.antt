-- What a set of causes finds: its test for equality is equality.
use Rattle.std.proofs.Common.{◌≡◌, ℕ, zero, suc, ◌||◌, Bool, true, false, Some, List, [], ◌∷◌, get_or, slice_get, position, refl, ap, sym, ◌∙◌}
use Rattle.std.specs.List.{list_any}
use Rattle.std.proofs.lemmas.List.Quantifiers.{position-Some}
use Rattle.std.proofs.lemmas.Option.{slice_get-get_or}
use Rattle.causes.specs.declared.meetings.Cause.{Cause}
use Rattle.causes.proofs.Exact.{exact, itself}
use Rattle.causes.specs.contracts.meetings.CausePartialEq.TheImpl.{eq-value}

or_true : (b : Bool) → (b || true) ≡ true
or_true true = refl
or_true false = refl

pub any_at : (c : Cause) (xs : List Cause) (g : ℕ) → slice_get xs g ≡ Some c → list_any (eq-value.it c) xs ≡ true
any_at c [] g e = cc
any_at c (x ∷ xs) zero e =
    let one : x ≡ c = cc in
    ap (λ (y : Cause). eq-value.it c y || list_any (eq-value.it c) xs) one ∙ ap (λ (b : Bool). b || list_any (eq-value.it c) xs) (itself c)
any_at c (x ∷ xs) (suc g) e = ap (λ (b : Bool). eq-value.it c x || b) (any_at c xs g e) ∙ or_true (eq-value.it c x)

pub index_found : (c : Cause) (xs : List Cause) (g : ℕ) → position (eq-value.it c) xs ≡ Some g → slice_get xs g ≡ Some c
index_found c xs g e =
    let r = position-Some (eq-value.it c) xs g c e in
    slice_get-get_or xs g c r.0 ∙ ap Some (sym (exact c (get_or xs g c) r.1))
