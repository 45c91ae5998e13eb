-- Words in lines for a terminal.
use Rattle.growing_text.specs.Texts.{cut_short}
use Rattle.growing_text.specs.declared.lines.Lines.{Lines}

-- lines that say the same, and to which no more is added
abbrev pub lines_cut : Lines → Lines
lines_cut lines = record lines { text = cut_short lines.text }
