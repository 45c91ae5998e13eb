-- The plan that briefs mean, text by text; what is known of a brief that was learned.
use Rattle.std.proofs.Common.{◌≡◌, ℕ, ◌+◌, Bool, List, [], ◌∷◌, ◌++◌, Option, Some, None, Result, Ok, All, map, refl, subst, ap, ◌∙◌, string_bytes}
use Rattle.std.proofs.lemmas.List.Elements.{All-nil}
use Rattle.brief_text.specs.Briefs.{text_read, texts_read, in_text, then_read, brief_read, briefs_read, Means, AllMean}
use Rattle.brief_text.specs.Drafts.{Draft, no_items}
use Rattle.brief_text.specs.Splitting.{plan_meant}
use Rattle.plan_core.specs.Contents.{Contents}
use Rattle.run_parts.specs.declared.runs.Status.TheVariants.{Good}
use Rattle.lessons.specs.declared.checking.Learned.{Learned}
use Rattle.lessons.specs.declared.seen.Sight.{Sight}
use Rattle.lessons.specs.declared.seen.Sights.{Sights}
use Rattle.lessons.specs.Lessons.{MeansAfter, Teaches, texts_before, marked, unmarked, path_seen, seen_in, odd_in, capped, left_over}
use Rattle.lessons.specs.Plans.{HasPath}
use Rattle.lessons.specs.Taken.{ReadsBefore, ReadAfter}
use Rattle.plan_text.specs.declared.errors.PlanError.{PlanError}

alone : (text : List ℕ) (first d : Draft) (plan : Contents) → first ≡ no_items → text_read first text ≡ Ok d → plan ≡ plan_meant d → Means text plan
unfolding brief_read
alone text first d plan none read is =
    let same : text_read no_items text ≡ Ok d = rw (← none) read in
    rw (same, is) refl

-- one more text after those that were read
read_on : (k : ℕ) (draft first d : Draft) (texts : List (List ℕ)) (text : List ℕ) → ReadAfter draft texts first → text_read first text ≡ Ok d → texts_read k draft (texts ++ text ∷ []) ≡ Ok d
read_on k draft first d [] text same read =
    ap (λ (r : Result Draft PlanError). then_read (in_text k r) (λ more. texts_read (k + 1) more [])) (subst (λ (x : Draft). text_read x text ≡ Ok d) same read)
read_on k draft first d (one ∷ texts) text (more, this, rest) read =
    ap (λ (r : Result Draft PlanError). then_read (in_text k r) (λ more. texts_read (k + 1) more (texts ++ text ∷ []))) this
    ∙ read_on (k + 1) more first d texts text rest read

all_mean : (texts : List (List ℕ)) (text : List ℕ) (first d : Draft) (plan : Contents) → ReadAfter no_items texts first → text_read first text ≡ Ok d → plan ≡ plan_meant d → AllMean (texts ++ text ∷ []) plan
unfolding briefs_read
all_mean texts text first d plan before read is = rw (read_on 0 no_items first d texts text before read, is) refl

pub means_after : (before : Option (List (List ℕ))) (text : List ℕ) (first d : Draft) (plan : Contents) → ReadsBefore before first → text_read first text ≡ Ok d → plan ≡ plan_meant d → MeansAfter before text plan
means_after None text first d plan r e is = alone text first d plan r e is
means_after (Some texts) text first d plan r e is = all_mean texts text first d plan r e is

-- a brief that was read, with what is known of it
pub teaches : (seen : Sights) (learned : Learned) (bytes : List ℕ) (marks : List Bool) (sights : List Sight) (plan : Contents) →
    bytes ≡ string_bytes learned.brief → marks ≡ learned.had.items → sights ≡ seen_in seen →
    MeansAfter (texts_before seen.before) bytes plan → All (HasPath plan) (map path_seen (marked marks sights)) →
    learned.in_no_message ≡ capped (left_over seen (unmarked learned.had.items (seen_in seen))) →
    (learned.status ≡ Good → (unmarked learned.had.items (seen_in seen) ≡ []) × (odd_in seen ≡ [])) → Teaches seen learned
teaches seen learned bytes marks sights plan b m s means has counts whole = record {
  plan = plan;
  means = subst (λ (t : List ℕ). MeansAfter (texts_before seen.before) t plan) b means;
  has = subst (λ (ms : List Bool). All (HasPath plan) (map path_seen (marked ms (seen_in seen)))) m
      (subst (λ (ss : List Sight). All (HasPath plan) (map path_seen (marked marks ss))) s has);
  counts = counts;
  whole = whole;
}

pub nothing_has : (plan : Contents) (sights : List Sight) → All (HasPath plan) (map path_seen (marked [] sights))
nothing_has plan sights = All-nil (HasPath plan)
