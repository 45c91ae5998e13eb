-- What a name stands for: its bytes.
use Rattle.std.specs.Prelude.{ℕ, List}
use Rattle.std.specs.String.{string_bytes}
use Rattle.plan_core.specs.declared.names.Name.{Name}

abbrev pub name_bytes : Name → List ℕ
name_bytes name = string_bytes name.text
