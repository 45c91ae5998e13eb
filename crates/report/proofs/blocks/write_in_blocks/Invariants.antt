use Rattle.std.proofs.Common.{◌++◌, drop}
use Rattle.verdicts.specs.Texts.{lines_after_head, text_of, joined}
use Rattle.decoding.specs.Parts.{IsLeft}
use Rattle.report.proofs.blocks.write_in_blocks.Given as goal

-- what is left to be written is in the block and in the lines to come
abbrev pub invariant-loop-k : goal.invariant-loop-k
invariant-loop-k g l =
    IsLeft g.O.Output.writer l.fn.out (text_of l.text) (l.block.items ++ joined (drop l.k (lines_after_head l.text))) l.out
