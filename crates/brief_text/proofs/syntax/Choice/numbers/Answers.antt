use Rattle.std.proofs.Common.{arith}
use Rattle.brief_text.specs.Standing.{choice_of}
use Rattle.brief_text.proofs.BlockLemmas.{few_blocks}
use Rattle.brief_text.proofs.syntax.Choice.numbers.Goals as goal

pub overflow_cast-result : goal.overflow_cast-result
overflow_cast-result c = let most = few_blocks (choice_of c.args.self) c.requires in omega (arith, most, c.count.ensures.count)
