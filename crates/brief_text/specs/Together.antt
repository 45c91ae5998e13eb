-- What several briefs make up together.
use Rattle.std.specs.Prelude.{◌≡◌, Result, Ok, Err}
use Rattle.plan_text.specs.Places.{Refuses}
use Rattle.plan_text.specs.declared.errors.PlanError.{PlanError}
use Rattle.brief_text.specs.declared.briefs.Briefs.{Briefs}
use Rattle.brief_text.specs.Drafts.{Draft}
use Rattle.brief_text.specs.Standing.{draft}

unfoldable pub together : Briefs → Draft
together briefs = draft briefs.board

-- what was read follows what stood before, or the brief is refused
abbrev pub Follows : Result Briefs PlanError → Result Draft PlanError → Type 0
Follows (Ok briefs) given = given ≡ Ok (together briefs)
Follows (Err e) given = Refuses given e
