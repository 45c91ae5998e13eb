-- Texts with the same words mean the same.
use Rattle.std.proofs.Common.{◌≡◌, ℕ, ◌⊎◌, inl, inr, List, sym, arith}
use Rattle.std.proofs.lemmas.Grind.{common_steps}
use Rattle.std.specs.Prelude.{Ok, Err}
use Rattle.brief_text.specs.Briefs.{text_read, Means}
use Rattle.brief_text.specs.Drafts.{Draft}
use Rattle.brief_text.proofs.SaidLemmas.{text_again, said_meant, meant_said}
use Rattle.brief_text.proofs.SaysLemmas.{text_takes}
use Rattle.layout.specs.SameWords.{SameWords}
use Rattle.plan_core.specs.Contents.{Contents}
use Rattle.plan_text.specs.Grammar.{Spells}
use Rattle.plan_text.specs.Refusals.{First}
use Rattle.plan_text.specs.declared.errors.PlanError.{PlanError}
use Rattle.plan_text.proofs.ReadLemmas.{answered}
use Rattle.plan_text.proofs.RefusedLemmas.{spelled_not_refused}
use Rattle.text_laws.proofs.BriefWords.{same_says}
use Rattle.text_laws.proofs.PlanWords.{same_spells}

pub turned : (text other : List ℕ) → SameWords text other → SameWords other text
turned text other same = (sym same.0, sym same.1, sym same.2, sym same.3)

pub same_read : (text other : List ℕ) (draft after : Draft) → SameWords text other → text_read draft text ≡ Ok after → text_read draft other ≡ Ok after
same_read text other draft after same is = text_again other draft after (same_says text other draft after same (text_takes text draft after is))

pub same_means : (text other : List ℕ) (plan : Contents) → SameWords text other → Means text plan → Means other plan
same_means text other plan same means = grind (arith, common_steps, meant_said, said_meant, same_says)

-- ---- refusals

pub same_first : (text other : List ℕ) (e : PlanError) → SameWords text other → First text e → (f : PlanError) × First other f
same_first text other e same refused = by (answered other)
  where
    by : ((plan : Contents) × Spells other plan) ⊎ ((f : PlanError) × First other f) → (f : PlanError) × First other f
    by (inl spelled) = absurd (spelled_not_refused text spelled.0 e (same_spells other text spelled.0 (turned text other same) spelled.1) refused)
    by (inr first) = first

pub same_refused : (text other : List ℕ) (draft : Draft) (e : PlanError) → SameWords text other → text_read draft text ≡ Err e → (f : PlanError) × (text_read draft other ≡ Err f)
same_refused text other draft e same refused = grind (arith, common_steps, same_read, turned)
