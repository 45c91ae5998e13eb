-- Whether a plan text is refused.
use Rattle.std.specs.Prelude.{List, ℕ}
use Rattle.plan_core.specs.Contents.{Contents}
use Rattle.plan_text.specs.Grammar.{Spells}
use Rattle.plan_text.specs.Refusals.{First}
use Rattle.run_parts.specs.declared.errors.RunError.{RunError}
use Rattle.run_parts.specs.declared.errors.RunError.TheVariants as error

-- the first refusal of the text is the answer, but for out of memory, which may come at any text
abbrev pub RefusesPlan : List ℕ → RunError → Type 0
RefusesPlan text (error.Plan e) = First text e
RefusesPlan text error.NoMemory = Unit {0}
RefusesPlan text _ = ⊥

-- the text has no refusal
abbrev pub SpellsPlan : List ℕ → Type 0
SpellsPlan text = (plan : Contents) × Spells text plan
