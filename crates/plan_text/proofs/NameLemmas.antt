-- Names, and lists of the names of messages.
use Rattle.std.proofs.Common.{◌≡◌, ℕ, zero, suc, ◌<◌, ◌+◌, Bool, true, false, List, [], ◌∷◌, ◌++◌, Option, Some, None, refl, append_assoc, append-nil, arith}
use Rattle.std.specs.Prelude.{not, nat_le, length, if◌then◌else◌}
use Rattle.std.proofs.lemmas.Bool.{and_parts, false_from_ne_true}
use Rattle.std.proofs.lemmas.Bool.Decides.{nat_tests}
use Rattle.std.specs.List.{list_all, list_any}
use Rattle.std.specs.Str.{IsUtf8, IsAscii, bytes_eq}
use Rattle.std.proofs.lemmas.Str.{IsUtf8-from_ascii}
use Rattle.std.proofs.lemmas.Str.Ascii.{IsAscii-nil}
use Rattle.std.specs.Prelude.{is_some}
use Rattle.plan_core.specs.Building.{has_name, list_refusal, never_refusal, two_refusal}
use Rattle.plan_core.specs.Contents.{Contents}
use Rattle.plan_core.specs.Limits.{sending_count}
use Rattle.plan_core.specs.Names.{is_name, is_name_byte}
use Rattle.plan_core.specs.declared.builder.BuildError.{BuildError}
use Rattle.plan_core.specs.declared.builder.BuildError.TheVariants.{Twice, TooMany, Unknown}
use Rattle.plan_text.specs.Reader.{name_in, unknown_controller}
use Rattle.plan_text.specs.Tokens.{word}

name_byte_ascii : (b : ℕ) → is_name_byte b ≡ true → b < 128
name_byte_ascii b h = grind (arith, nat_tests)

all_ascii : (bytes : List ℕ) → list_all is_name_byte bytes ≡ true → IsAscii bytes
all_ascii [] h i = IsAscii-nil i
all_ascii (b ∷ bytes) h zero = name_byte_ascii b (and_parts _ _ h).0
all_ascii (b ∷ bytes) h (suc i) = all_ascii bytes (and_parts _ _ h).1 i

pub no_name : (bytes : List ℕ) → (IsUtf8 bytes → ⊥) → is_name bytes ≡ false
unfolding is_name
no_name bytes invalid =
    false_from_ne_true (is_name bytes) (λ is. invalid (IsUtf8-from_ascii bytes (all_ascii bytes (and_parts _ _ (and_parts _ _ (and_parts _ _ is).0).0).1)))

pub no_name_in : (bytes : List ℕ) → (IsUtf8 bytes → ⊥) → name_in (word bytes) ≡ None
no_name_in bytes invalid = rw (no_name bytes invalid) refl

tests_pass : (unknown twice many : Bool) (x y : Option BuildError) → (x ≡ None → y ≡ None) → (if unknown then Some Unknown else if twice then Some Twice else if many then Some TooMany else x) ≡ None
    → (if unknown then Some Unknown else if twice then Some Twice else if many then Some TooMany else y) ≡ None
tests_pass true twice many x y f h = absurd cc
tests_pass false true many x y f h = absurd cc
tests_pass false false true x y f h = absurd cc
tests_pass false false false x y f h = f h

pub list_more : (plan : Contents) (before names : List (List ℕ)) (name : List ℕ) → list_refusal plan before names ≡ None → list_refusal plan (before ++ names) (name ∷ []) ≡ None → list_refusal plan before (names ++ name ∷ []) ≡ None
list_more plan before [] name first second = rw (← append-nil before) second
list_more plan before (n ∷ names) name first second =
    tests_pass (not (has_name n plan.messages)) (list_any (λ other. bytes_eq other n) before) (nat_le 512 (sending_count plan.controllers + length before)) _ _
    (λ h. list_more plan (before ++ n ∷ []) names name h (rw (append_assoc before (n ∷ []) names) second)) first

-- ---- a list, name by name

pub if_none : (t : Bool) (cause : BuildError) (more : Option BuildError) → (if t then Some cause else more) ≡ None → (t ≡ false) × (more ≡ None)
if_none true cause more h = absurd cc
if_none false cause more h = (refl, h)

pub list_taken : (plan : Contents) (before : List (List ℕ)) (name : List ℕ) (names : List (List ℕ)) → list_refusal plan before (name ∷ names) ≡ None →
    (list_refusal plan before (name ∷ []) ≡ None) × (list_refusal plan (before ++ name ∷ []) names ≡ None)
list_taken plan before name names h =
    let unknown = if_none (not (has_name name plan.messages)) _ _ h in
    let twice = if_none (list_any (λ other. bytes_eq other name) before) _ _ unknown.1 in
    let many = if_none (nat_le 512 (sending_count plan.controllers + length before)) _ _ twice.1 in
    (rw (unknown.0, twice.0, many.0) refl, many.1)

known_by : (plan : Contents) (first : Option ℕ) (same : Bool) (second : Option ℕ) → two_refusal plan first same second ≡ None → is_some first ≡ true
known_by plan None same second h = absurd cc
known_by plan (Some c) same second h = refl

pub known_first : (plan : Contents) (first second : List ℕ) → never_refusal plan first second ≡ None → unknown_controller plan first ≡ None
unfolding never_refusal
known_first plan first second h =
    let known : has_name first plan.controllers ≡ true = known_by plan _ _ _ h in
    rw known refl

pub list_fits : (plan : Contents) (before : List (List ℕ)) (name : List ℕ) (names : List (List ℕ)) → list_refusal plan before (name ∷ []) ≡ None → list_refusal plan (before ++ name ∷ []) names ≡ None →
    list_refusal plan before (name ∷ names) ≡ None
list_fits plan before name names h more =
    let unknown = if_none (not (has_name name plan.messages)) _ _ h in
    let twice = if_none (list_any (λ other. bytes_eq other name) before) _ _ unknown.1 in
    let many = if_none (nat_le 512 (sending_count plan.controllers + length before)) _ _ twice.1 in
    rw (unknown.0, twice.0, many.0) more
