-- The names of a plan, kind by kind. Only private contracts and proofs use this.
use Rattle.std.specs.Prelude.{ℕ, List}
use Rattle.std.specs.Map.{keys_of}
use Rattle.plan_core.specs.Contents.{Contents}
use Rattle.spellings.specs.declared.writing.Kind.{Kind}
use Rattle.spellings.specs.declared.writing.Kind.TheVariants.{Message, Controller, Interrupt}

abbrev pub names_of : Kind → Contents → List (List ℕ)
names_of Message plan = keys_of plan.messages
names_of Controller plan = keys_of plan.controllers
names_of Interrupt plan = keys_of plan.interrupts
