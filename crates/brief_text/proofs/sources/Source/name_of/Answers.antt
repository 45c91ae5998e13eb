use Rattle.std.proofs.Common.{sym, ap, ◌∙◌, inr, refl}
use Rattle.std.specs.Prelude.{Err}
use Rattle.plan_text.specs.declared.errors.PlanError.{PlanError}
use Rattle.plan_text.proofs.NameLemmas.{no_name}
use Rattle.brief_text.specs.Places.{name_in}
use Rattle.brief_text.specs.Standing.{before}
use Rattle.brief_text.proofs.StepLemmas.{word_missed}
use Rattle.brief_text.proofs.sources.Source.name_of.Goals as goal

pub returns-in_default-from_utf8 : goal.returns-in_default-from_utf8
returns-in_default-from_utf8 c = λ after.
    inr (word_missed c.args.token (before c.args.token after) after refl c.in-Word.word c.in-Word.is name_in (rw (no_name c.in-Word.word.now c.in_default-from_utf8.ensures.cases.0) refl) ∙ ap (λ (e : PlanError). Err e) (sym c.unexpected-in_default-from_utf8.ensures))
