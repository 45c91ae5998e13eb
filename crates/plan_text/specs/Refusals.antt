-- The first refusal of a text that spells no plan.
use Rattle.std.specs.Prelude.{◌≡◌, ℕ, List, Err}
use Rattle.plan_text.specs.declared.errors.PlanError.{PlanError}
use Rattle.plan_text.specs.Reader.{text_read}

-- reading stops at this refusal
abbrev pub First : List ℕ → PlanError → Type 0
First text e = text_read text ≡ Err e
