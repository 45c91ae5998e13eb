-- The lines of a bench that was played.
use Rattle.std.specs.Prelude.{ℕ, List, ◌++◌, codes}
use Rattle.message_tree.specs.declared.items.Item.{Item}
use Rattle.message_tree.specs.Symbols.{wire_text}
use Rattle.plan_core.specs.Contents.{Contents}
use Rattle.run_parts.specs.Lines.{labels}

-- wire WIRE
abbrev pub wire_line : List Item → List ℕ
wire_line wire = codes "wire " ++ (wire_text wire ++ codes "\n")

-- won LABEL LABEL ..
abbrev pub won_line : Contents → List ℕ → List ℕ
won_line plan won = codes "won" ++ (labels plan won ++ codes "\n")

abbrev pub rehearsal_lines : Contents → List Item → List ℕ → List ℕ
rehearsal_lines plan wire won = wire_line wire ++ won_line plan won
