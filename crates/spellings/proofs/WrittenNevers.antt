-- The `never` items of a brief that is written fit one after the other.
use Rattle.std.proofs.Common.{◌≡◌, ◌≢◌, ℕ, zero, suc, ◌<◌, Bool, true, false, List, [], ◌∷◌, ◌++◌, length, get_or, map, Some, refl, ap, sym, ◌∙◌, arith}
use Rattle.std.specs.Prelude.{All, ◌==◌, ◌&&◌}
use Rattle.std.specs.List.{list_any}
use Rattle.std.specs.Map.{lookup}
use Rattle.std.specs.Str.{bytes_eq}
use Rattle.std.proofs.lemmas.Bool.{eqb-true, eqb-false, false_from_ne_true, or_from}
use Rattle.std.proofs.lemmas.List.{map-append}
use Rattle.std.proofs.lemmas.List.Elements.{All-head, All-tail}
use Rattle.plan_core.specs.Contents.{Contents}
use Rattle.plan_core.specs.Labels.{name_at}
use Rattle.plan_core.specs.Limits.{IsWithinLimits}
use Rattle.plan_core.specs.Participants.{names_both}
use Rattle.plan_core.proofs.BuildingLemmas.{bytes_eq-same}
use Rattle.spellings.proofs.CanonicalItems.{All-here, AllPairs-here, All-before, turned, not_equal, names_differ}
use Rattle.brief_text.specs.Drafts.{Draft, with_item}
use Rattle.brief_text.specs.Fitting.{Fits}
use Rattle.brief_text.specs.Judging.{first_refusal, second_refusal, are_sides}
use Rattle.brief_text.specs.Splitting.{whole}
use Rattle.spellings.specs.Writing.{never_brief}
use Rattle.spellings.proofs.WrittenItems.{listed, sides, staged}

and_true : (a : Bool) → (a && true) ≡ a
and_true true = refl
and_true false = refl

module _ (plan : Contents) (limits : IsWithinLimits plan) where
  -- two numbers of controllers have one name exactly if they are equal
  pub name_eq : (j k : ℕ) → j < length plan.controllers → k < length plan.controllers → bytes_eq (name_at plan.controllers j) (name_at plan.controllers k) ≡ (j == k)
  name_eq j k j_in k_in = by_test (j == k) refl
    where
      by_test : (t : Bool) → (j == k) ≡ t → bytes_eq (name_at plan.controllers j) (name_at plan.controllers k) ≡ t
      by_test true e = bytes_eq-same _ _ (ap (name_at plan.controllers) (eqb-true j k e))
      by_test false e = not_equal _ _ (names_differ plan.controllers j k limits.controllers.names j_in k_in (eqb-false j k e))

  -- a name of a controller is found
  found : (name : List ℕ) (cs : List (List ℕ × List ℕ)) (k : ℕ) → k < length cs → name_at cs k ≡ name → (them : List (List ℕ)) × (lookup (bytes_eq name) (map (listed plan) cs) ≡ Some them)
  found name [] k h e = absurd (omega arith)
  found name (c ∷ cs) zero h e = (map (name_at plan.messages) c.1, rw (bytes_eq-same name c.0 (sym e)) refl)
  found name (c ∷ cs) (suc k) h e = by_test (bytes_eq name c.0) refl (found name cs k (omega arith) e)
    where
      by_test : (t : Bool) → bytes_eq name c.0 ≡ t → (them : List (List ℕ)) × (lookup (bytes_eq name) (map (listed plan) cs) ≡ Some them) → (them : List (List ℕ)) × (lookup (bytes_eq name) (map (listed plan) (c ∷ cs)) ≡ Some them)
      by_test true is later = (map (name_at plan.messages) c.1, rw is refl)
      by_test false is later = (later.0, rw is later.1)

  module _ (before : List (ℕ × ℕ)) (x : ℕ × ℕ) (after : List (ℕ × ℕ)) (split : before ++ (x ∷ after) ≡ plan.nevers) where
    abbrev here : Draft
    here = staged plan plan.messages plan.controllers plan.interrupts before

    abbrev InPlan : ℕ × ℕ → Type 0
    InPlan n = (n.0 < length plan.controllers) × (n.1 < length plan.controllers)

    x_in : InPlan x
    x_in = All-here before x after plan.nevers split InPlan limits.nevers.known

    same_sides : (n : ℕ × ℕ) → InPlan n → are_sides (whole (name_at plan.controllers x.0)) (whole (name_at plan.controllers x.1)) (sides plan n) ≡ names_both x.0 x.1 n
    same_sides n n_in =
        rw (name_eq n.0 x.0 n_in.0 x_in.0, name_eq n.1 x.1 n_in.1 x_in.1, name_eq n.0 x.1 n_in.0 x_in.1, name_eq n.1 x.0 n_in.1 x_in.0, and_true (n.0 == x.0), and_true (n.1 == x.1), and_true (n.0 == x.1), and_true (n.1 == x.0)) refl

    none_same : (ns : List (ℕ × ℕ)) → All InPlan ns → All (λ n. names_both x.0 x.1 n ≡ false) ns → list_any (are_sides (whole (name_at plan.controllers x.0)) (whole (name_at plan.controllers x.1))) (map (sides plan) ns) ≡ false
    none_same [] known new = refl
    none_same (n ∷ ns) known new =
        or_from _ _ (same_sides n (All-head InPlan n ns known) ∙ All-head (λ n. names_both x.0 x.1 n ≡ false) n ns new)
        (none_same ns (All-tail InPlan n ns known) (All-tail (λ n. names_both x.0 x.1 n ≡ false) n ns new))

    pub never_fits_here : Fits here (never_brief plan x)
    unfolding first_refusal second_refusal
    never_fits_here =
        let one = found (name_at plan.controllers x.0) plan.controllers x.0 x_in.0 refl in
        let other = found (name_at plan.controllers x.1) plan.controllers x.1 x_in.1 refl in
        let two : (x.0 == x.1) ≡ false = false_from_ne_true (x.0 == x.1) (λ e. All-here before x after plan.nevers split (λ n. n.0 ≢ n.1) limits.nevers.two (eqb-true x.0 x.1 e)) in
        let differ = name_eq x.0 x.1 x_in.0 x_in.1 ∙ two in
        let others = AllPairs-here before x after plan.nevers split (λ m n. names_both m.0 m.1 n ≡ false) limits.nevers.once in
        let new = none_same before (All-before before x after plan.nevers split InPlan limits.nevers.known) (λ k d h. turned (get_or before k d) x (others k d h)) in
        (rw one.1 refl, rw (differ, other.1, new) refl)

    pub never_adds_here : with_item here (never_brief plan x) ≡ staged plan plan.messages plan.controllers plan.interrupts (before ++ (x ∷ []))
    unfolding with_item
    never_adds_here = ap (λ ns. record here { nevers = ns }) (sym (map-append (sides plan) before (x ∷ [])))
