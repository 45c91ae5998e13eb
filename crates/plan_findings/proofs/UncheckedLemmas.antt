-- Messages that a controller lists, as a search of its list finds them.
use Rattle.std.proofs.Common.{◌≡◌, ℕ, ◌==◌, true, false, List, Some, slice_get, get_or, sym, subst}
use Rattle.std.specs.Prelude.{Contains}
use Rattle.std.specs.List.{list_any}
use Rattle.std.specs.Map.{values_of}
use Rattle.std.proofs.lemmas.Bool.{eq-eqb, eqb-true}
use Rattle.std.proofs.lemmas.List.Folds.{list_any_at}
use Rattle.std.proofs.lemmas.Map.Views.{Contains-from_any}
use Rattle.plan_findings.specs.Unchecked.{IsListed}
use Rattle.plan_core.specs.Contents.{Contents}

-- the list at this place does not have the message
abbrev pub Lacks : Contents → ℕ → ℕ → Type 0
Lacks plan message controller =
    (messages : List ℕ) → slice_get (values_of plan.controllers) controller ≡ Some messages → Contains messages message → ⊥

finds : (messages : List ℕ) (message : ℕ) → list_any (λ y. y == message) messages ≡ true → Contains messages message
finds messages message found = Contains-from_any {eq = λ a b. b == a} (λ a b h. sym (eqb-true b a h)) message messages found

finds_what_is_there : (messages : List ℕ) (message : ℕ) → Contains messages message → list_any (λ y. y == message) messages ≡ true
finds_what_is_there messages message has = list_any_at (λ y. y == message) messages has.0 message has.1 (eq-eqb (get_or messages has.0 message) message has.2)

pub is_listed : (plan : Contents) (message controller : ℕ) (messages : List ℕ) → slice_get (values_of plan.controllers) controller ≡ Some messages →
    list_any (λ y. y == message) messages ≡ true → IsListed plan message
is_listed plan message controller messages here found = record { controller = controller; messages = messages; here = here; has = finds messages message found }

pub lacks : (plan : Contents) (message controller : ℕ) (messages : List ℕ) → slice_get (values_of plan.controllers) controller ≡ Some messages →
    list_any (λ y. y == message) messages ≡ false → Lacks plan message controller
lacks plan message controller messages here found others at has =
    let same : messages ≡ others = cc in
    let there = finds_what_is_there messages message (subst (λ (xs : List ℕ). Contains xs message) (sym same) has) in
    cc
