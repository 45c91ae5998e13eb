use Rattle.vcd_read.proofs.EightLemmas.{eight_is}
use Rattle.vcd_read.proofs.words.value_of_eight.Goals as goal

pub returns : goal.returns
returns c = λ digits long below word. eight_is digits c.args.word long below word
