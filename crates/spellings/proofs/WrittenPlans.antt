-- The items of a brief that is written mean the plan that they are written for.
use Rattle.std.proofs.Common.{◌≡◌, ◌≢◌, ℕ, zero, suc, ◌<◌, List, [], ◌∷◌, ◌++◌, length, map, is_some, refl, ap, sym, ◌∙◌, subst, arith, append_assoc, append-nil}
use Rattle.std.specs.Prelude.{All, AllPairs, if◌then◌else◌}
use Rattle.std.specs.List.{filter, flat_map}
use Rattle.std.specs.Map.{keys_of}
use Rattle.std.proofs.lemmas.List.{length-map}
use Rattle.std.proofs.lemmas.List.Elements.{All-head, All-tail, filter-append}
use Rattle.plan_core.specs.Building.{with_controller, with_sender, with_never}
use Rattle.plan_core.specs.Contents.{Contents}
use Rattle.plan_core.specs.Labels.{name_at}
use Rattle.plan_core.specs.Limits.{IsWithinLimits}
use Rattle.plan_core.proofs.BuildingLemmas.{bytes_eq-same}
use Rattle.spellings.proofs.CanonicalItems.{not_equal, up_to_controllers, up_to_nevers, controller_adds, never_fits, never_adds}
use Rattle.brief_text.specs.Drafts.{Draft, no_items}
use Rattle.brief_text.specs.Fitting.{MakeUp}
use Rattle.brief_text.specs.Splitting.{Part, part_name, whole, parts, are_of_one, pairs_among, side_means, parts_meant, pairs_meant, pairs_apart, with_parts, with_pair, with_pairs, plan_meant}
use Rattle.spellings.specs.Writing.{message_brief, controller_brief, interrupt_brief, never_brief, brief_items}
use Rattle.spellings.proofs.WrittenItems.{made_from, listed, sides, staged, whole_part, parts_are, message_fits_here, message_adds_here, controller_fits_here, controller_adds_here, interrupt_fits_here, interrupt_adds_here}
use Rattle.spellings.proofs.WrittenNevers.{never_fits_here, never_adds_here}

abbrev Names : Type 0
Names = List (List ℕ × List ℕ)

-- ---- names that differ, in a list of entries

module _ (c : List ℕ × List ℕ) (cs : Names) (distinct : AllPairs ◌≢◌ (keys_of (c ∷ cs))) where
  later_distinct : AllPairs ◌≢◌ (keys_of cs)
  later_distinct j k d less within = distinct (suc j) (suc k) d (omega arith) (omega arith)

  head_differs : All (λ name. c.0 ≢ name) (keys_of cs)
  head_differs k d within = distinct zero (suc k) d (omega arith) (omega arith)

module _ (plan : Contents) where
  abbrev part : List ℕ × List ℕ → Part
  part c = whole_part plan (listed plan c)

  abbrev parts_for : Names → List Part
  parts_for cs = map (whole_part plan) (map (listed plan) cs)

  -- ---- no two parts are of one controller

  none_with : (c : List ℕ × List ℕ) (cs : Names) → All (λ name. c.0 ≢ name) (keys_of cs) → filter are_of_one (map (λ y. (part c, y)) (parts_for cs)) ≡ []
  none_with c [] differ = refl
  none_with c (x ∷ cs) differ =
      rw (not_equal c.0 x.0 (All-head (λ name. c.0 ≢ name) x.0 (keys_of cs) differ)) (none_with c cs (All-tail (λ name. c.0 ≢ name) x.0 (keys_of cs) differ))

  none_of_one : (cs : Names) → AllPairs ◌≢◌ (keys_of cs) → filter are_of_one (pairs_among (parts_for cs)) ≡ []
  none_of_one [] distinct = refl
  none_of_one (c ∷ cs) distinct =
      filter-append are_of_one (map (λ y. (part c, y)) (parts_for cs)) (pairs_among (parts_for cs))
      ∙ (λ i. none_with c cs (head_differs c cs distinct) i ++ none_of_one cs (later_distinct c cs distinct) i)

  -- ---- a controller means its own part

  module _ (draft : Draft) (name : List ℕ) where
    no_other : (cs : Names) → All (λ other. name ≢ other) (keys_of cs) → filter (side_means draft (whole name)) (parts_for cs) ≡ []
    no_other [] differ = refl
    no_other (c ∷ cs) differ =
        rw (not_equal name c.0 (All-head (λ other. name ≢ other) c.0 (keys_of cs) differ)) (no_other cs (All-tail (λ other. name ≢ other) c.0 (keys_of cs) differ))

    one_part : (cs : Names) (k : ℕ) → k < length cs → AllPairs ◌≢◌ (keys_of cs) → name_at cs k ≡ name → (p : Part) × (filter (side_means draft (whole name)) (parts_for cs) ≡ p ∷ []) × (part_name p ≡ name)
    one_part [] k within distinct e = absurd (omega arith)
    one_part (c ∷ cs) zero within distinct e =
        let others : All (λ other. name ≢ other) (keys_of cs) = subst (λ n. All (λ other. n ≢ other) (keys_of cs)) e (head_differs c cs distinct) in
        (part c, rw (bytes_eq-same name c.0 (sym e)) (ap (λ ps. part c ∷ ps) (no_other cs others)), e)
    one_part (c ∷ cs) (suc k) within distinct e =
        let later = one_part cs k (omega arith) (later_distinct c cs distinct) e in
        let differ : name ≢ c.0 = λ same. head_differs c cs distinct k [] (omega (arith, length-map cs (λ x. x.0))) (sym same ∙ sym e) in
        (later.0, rw (not_equal name c.0 differ) later.1, later.2)

  module _ (limits : IsWithinLimits plan) where
    abbrev all : Draft
    all = staged plan plan.messages plan.controllers plan.interrupts plan.nevers

    abbrev names_of : ℕ × ℕ → List ℕ × List ℕ
    names_of n = (name_at plan.controllers n.0, name_at plan.controllers n.1)

    abbrev names_in : Part × Part → List ℕ × List ℕ
    names_in pair = (part_name pair.0, part_name pair.1)

    parts_all : parts all ≡ parts_for plan.controllers
    parts_all = parts_are plan plan.messages plan.controllers plan.interrupts plan.nevers

    meant : (k : ℕ) → k < length plan.controllers → (p : Part) × (parts_meant all (whole (name_at plan.controllers k)) ≡ p ∷ []) × (part_name p ≡ name_at plan.controllers k)
    meant k within =
        let one = one_part all (name_at plan.controllers k) plan.controllers k within limits.controllers.names.distinct refl in
        (one.0, ap (filter (side_means all (whole (name_at plan.controllers k)))) parts_all ∙ one.1, one.2)

    abbrev InPlan : ℕ × ℕ → Type 0
    InPlan n = (n.0 < length plan.controllers) × (n.1 < length plan.controllers)

    nevers_meant : (ns : List (ℕ × ℕ)) → All InPlan ns → map names_in (flat_map (pairs_meant all) (map (sides plan) ns)) ≡ map names_of ns
    nevers_meant [] known = refl
    nevers_meant (n ∷ ns) known =
        let here = All-head InPlan n ns known in
        let first = meant n.0 here.0 in
        let second = meant n.1 here.1 in
        rw (first.1, second.1) (λ i. (first.2 i, second.2 i) ∷ nevers_meant ns (All-tail InPlan n ns known) i)

    pairs_are : pairs_apart all ≡ map names_of plan.nevers
    unfolding pairs_apart
    pairs_are =
        ap (λ ps. map names_in (filter are_of_one (pairs_among ps) ++ flat_map (pairs_meant all) all.nevers)) parts_all
        ∙ ap (λ l. map names_in (l ++ flat_map (pairs_meant all) all.nevers)) (none_of_one plan.controllers limits.controllers.names.distinct)
        ∙ nevers_meant plan.nevers limits.nevers.known

    -- ---- the plan

    abbrev up_to : Names → Contents
    up_to cs = record (up_to_controllers plan cs) { interrupts = plan.interrupts }

    one_more : (before : Names) (x : List ℕ × List ℕ) (after : Names) → before ++ (x ∷ after) ≡ plan.controllers → with_controller (up_to before) x.0 (map (name_at plan.messages) x.1) ≡ up_to (before ++ (x ∷ []))
    unfolding with_sender
    one_more before x after e = ap (λ (p : Contents). record p { interrupts = plan.interrupts }) (sym (controller_adds plan limits before x after e))

    controllers_from : (before cs : Names) → before ++ cs ≡ plan.controllers → with_parts (up_to before) (parts_for cs) ≡ up_to plan.controllers
    controllers_from before [] e = ap up_to (sym (append-nil before) ∙ e)
    controllers_from before (x ∷ cs) e =
        ap (λ p. with_parts p (parts_for cs)) (one_more before x cs e) ∙ controllers_from (before ++ (x ∷ [])) cs (append_assoc before (x ∷ []) cs ∙ e)

    nevers_from : (before ns : List (ℕ × ℕ)) → before ++ ns ≡ plan.nevers → with_pairs (up_to_nevers plan before) (map names_of ns) ≡ plan
    nevers_from before [] e = ap (up_to_nevers plan) (sym (append-nil before) ∙ e)
    nevers_from before (x ∷ ns) e =
        let plan_now = up_to_nevers plan before in
        let with_it = with_never plan_now (name_at plan.controllers x.0) (name_at plan.controllers x.1) in
        let added : with_pair plan_now (names_of x) ≡ with_it = ap (λ o. if is_some o then plan_now else with_it) (never_fits plan limits before x ns e) in
        ap (λ p. with_pairs p (map names_of ns)) (added ∙ sym (never_adds plan limits before x ns e)) ∙ nevers_from (before ++ (x ∷ [])) ns (append_assoc before (x ∷ []) ns ∙ e)

    pub means : plan_meant all ≡ plan
    unfolding plan_meant
    means =
        (λ i. with_pairs (with_parts all.plan (parts_all i)) (pairs_are i))
        ∙ ap (λ p. with_pairs p (map names_of plan.nevers)) (controllers_from [] plan.controllers refl)
        ∙ nevers_from [] plan.nevers refl

    pub made : MakeUp no_items (brief_items plan) all
    unfolding brief_items
    made =
        let m = plan.messages in
        let c = plan.controllers in
        let t = plan.interrupts in
        let n = plan.nevers in
        let last = made_from (never_brief plan) (staged plan m c t) n (never_fits_here plan limits) (never_adds_here plan limits) [] n refl [] all refl in
        let whole_last : MakeUp (staged plan m c t []) (map (never_brief plan) n) all = subst (λ items. MakeUp (staged plan m c t []) items all) (append-nil (map (never_brief plan) n)) last in
        made_from message_brief (λ ms. staged plan ms [] [] []) m (message_fits_here plan limits) (message_adds_here plan limits) [] m refl _ all
        (made_from (controller_brief plan) (λ cs. staged plan m cs [] []) c (controller_fits_here plan limits) (controller_adds_here plan limits) [] c refl _ all
        (made_from interrupt_brief (λ is. staged plan m c is []) t (interrupt_fits_here plan limits) (interrupt_adds_here plan limits) [] t refl _ all whole_last))

pub plan_said : (plan : Contents) → IsWithinLimits plan → (draft : Draft) × MakeUp no_items (brief_items plan) draft × (plan_meant draft ≡ plan)
plan_said plan limits = (staged plan plan.messages plan.controllers plan.interrupts plan.nevers, made plan limits, means plan limits)
