use Rattle.std.specs.Prelude.{ℕ}
use Rattle.pair_walk.specs.Marks.{AreMarks, Leads}
use Rattle.pair_walk.proofs.marks.Marking.follow.Given as goal

abbrev pub invariant-loop : goal.invariant-loop
invariant-loop l =
    AreMarks l.nodes l.self.beginnings.nodes.items l.self.marks.items ×
    (d : ℕ) × Leads l.nodes l.self.beginnings.nodes.items d l.beginning l.root l.node
