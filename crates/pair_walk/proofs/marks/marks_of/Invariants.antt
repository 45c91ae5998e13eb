use Rattle.pair_walk.specs.Marks.{AreMarks}
use Rattle.pair_walk.proofs.marks.marks_of.Given as goal

abbrev pub invariant-loop-m : goal.invariant-loop-m
invariant-loop-m l = AreMarks l.nodes l.marking.beginnings.nodes.items l.marking.marks.items
