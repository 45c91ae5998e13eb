-- Several briefs are the one text of their items.
use Rattle.std.proofs.Common.{◌≡◌, ℕ, ◌+◌, List, [], ◌∷◌, ◌++◌, refl, ap, sym, ◌∙◌, arith}
use Rattle.std.proofs.lemmas.Grind.{common_steps}
use Rattle.std.specs.Prelude.{Result, Ok, Err}
use Rattle.plan_core.specs.Contents.{Contents}
use Rattle.plan_text.specs.declared.errors.PlanError.{PlanError}
use Rattle.brief_text.specs.Briefs.{text_read, texts_read, in_text, then_read, briefs_read, Means, AllMean}
use Rattle.brief_text.specs.Drafts.{Draft, no_items, with_item}
use Rattle.brief_text.specs.Fitting.{MakeUp}
use Rattle.brief_text.specs.Grammar.{Spells}
use Rattle.brief_text.specs.Splitting.{plan_meant}
use Rattle.brief_text.specs.Trees.{BriefItem}
use Rattle.brief_text.proofs.SaidLemmas.{text_again, said_meant, meant_said}
use Rattle.brief_text.proofs.SaysLemmas.{text_takes}
use Rattle.text_laws.specs.Several.{EachSpells, all_items, MakeUpPlan}

abbrev good : {A : Type 0} → A → Result A (ℕ × PlanError)
good x = Ok x

-- ---- items one after another

pub make_up_both : (items more : List BriefItem) (draft middle after : Draft) → MakeUp draft items middle → MakeUp middle more after → MakeUp draft (items ++ more) after
make_up_both [] more draft middle after made also = grind (arith, common_steps)
make_up_both (item ∷ items) more draft middle after made also = grind (arith, common_steps, (make_up_both items more (with_item draft item) middle after made.1 also))

pub make_up_split : (items more : List BriefItem) (draft after : Draft) → MakeUp draft (items ++ more) after → (middle : Draft) × MakeUp draft items middle × MakeUp middle more after
make_up_split [] more draft after made = (draft, refl, made)
make_up_split (item ∷ items) more draft after made = grind (arith, common_steps, (make_up_split items more (with_item draft item) after made.1))

-- ---- texts one after another

abbrev Lists : List (List ℕ) → Draft → Draft → Type 0
Lists texts draft after = (lists : List (List BriefItem)) × EachSpells texts lists × MakeUp draft (all_items lists) after

pub texts_take : (texts : List (List ℕ)) (k : ℕ) (draft after : Draft) → texts_read k draft texts ≡ Ok after → Lists texts draft after
texts_take [] k draft after is = ([], tt, sym (same draft after is))
  where
    same : (x y : Draft) → good x ≡ good y → x ≡ y
    same x y e = cc
texts_take (text ∷ texts) k draft after is = by (text_read draft text) refl is (λ middle. texts_take texts (k + 1) middle after)
  where
    by : (r : Result Draft PlanError) → text_read draft text ≡ r → then_read (in_text k r) (λ more. texts_read (k + 1) more texts) ≡ Ok after
        → ((middle : Draft) → texts_read (k + 1) middle texts ≡ Ok after → Lists texts middle after) → Lists (text ∷ texts) draft after
    by (Err e) read h others = absurd cc
    by (Ok middle) read h others =
        let said = text_takes text draft middle read in
        let rest = others middle h in
        (said.items ∷ rest.0, (said.spelled, rest.1), make_up_both said.items (all_items rest.0) draft middle after said.made rest.2)

pub texts_again : (texts : List (List ℕ)) (lists : List (List BriefItem)) (k : ℕ) (draft after : Draft) → EachSpells texts lists → MakeUp draft (all_items lists) after → texts_read k draft texts ≡ Ok after
texts_again [] [] k draft after spelled made = ap (λ (d : Draft). Ok d) (sym made)
texts_again (text ∷ texts) (items ∷ lists) k draft after spelled made =
    let parts = make_up_split items (all_items lists) draft after made in
    let first = text_again text draft parts.0 (record { items = items; spelled = spelled.0; made = parts.1 }) in
    ap (λ (r : Result Draft PlanError). then_read (in_text k r) (λ more. texts_read (k + 1) more texts)) first
    ∙ texts_again texts lists (k + 1) parts.0 after spelled.1 parts.2
texts_again [] (items ∷ lists) k draft after spelled made = absurd spelled
texts_again (text ∷ texts) [] k draft after spelled made = absurd spelled

-- ---- plans

pub one_says : (text : List ℕ) (plan : Contents) → Means text plan → (items : List BriefItem) × Spells text items × MakeUpPlan items plan
one_says text plan means = grind (arith, common_steps, meant_said)

pub one_means : (text : List ℕ) (plan : Contents) → ((items : List BriefItem) × Spells text items × MakeUpPlan items plan) → Means text plan
one_means text plan s =
    rw s.2.2 (said_meant text s.2.0 (record { items = s.0; spelled = s.1; made = s.2.1 }))

-- a draft that was read has this plan
pub all_read : (texts : List (List ℕ)) (plan : Contents) → AllMean texts plan → (draft : Draft) × (texts_read 0 no_items texts ≡ Ok draft) × (plan ≡ plan_meant draft)
unfolding briefs_read
all_read texts plan means = grind (arith, common_steps)

pub all_say : (texts : List (List ℕ)) (plan : Contents) → AllMean texts plan → (lists : List (List BriefItem)) × EachSpells texts lists × MakeUpPlan (all_items lists) plan
all_say texts plan means = grind (arith, common_steps, all_read, texts_take)

pub all_mean : (texts : List (List ℕ)) (plan : Contents) → ((lists : List (List BriefItem)) × EachSpells texts lists × MakeUpPlan (all_items lists) plan) → AllMean texts plan
unfolding briefs_read
all_mean texts plan s = rw (texts_again texts s.0 0 no_items s.2.0 s.1 s.2.1, s.2.2) refl
