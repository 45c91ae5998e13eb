-- What a table holds.
use Rattle.std.specs.Prelude.{List}
use Rattle.pair_walk.specs.declared.walk_pair.Verdict.{Verdict}
use Rattle.plan_core.specs.Contents.{Contents}
use Rattle.verdicts.specs.declared.tables.Table.{Table}
use Rattle.verdicts.specs.Verdicts.{AreVerdicts}

abbrev pub table_verdicts : Table → List Verdict
table_verdicts table = table.verdicts.items

-- the table of this plan
abbrev pub IsTable : Contents → Table → Type 0
IsTable plan table = AreVerdicts plan (table_verdicts table)
