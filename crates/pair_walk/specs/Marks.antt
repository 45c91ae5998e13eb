-- Beginnings that messages have in common, by number. Only private contracts and proofs use what is here.
use Rattle.std.specs.Prelude.{◌≡◌, ◌+◌, ℕ, zero, suc, Some, List, slice_get}
use Rattle.pair_walk.specs.declared.shared.Node.{Node}
use Rattle.pair_walk.specs.declared.shared.Node.TheVariants as node
use Rattle.pair_walk.specs.declared.marks.Mark.{Mark}

-- this node with another number in the place of what follows where it is acknowledged; a STOP, which nothing follows, is
-- never asked for, and is as a repeated START
abbrev pub leads_to : Node → ℕ → Node
leads_to node.Stop k = node.Again k
leads_to (node.Again i) k = node.Again k
leads_to (node.Byte p i j) k = node.Byte p k j
leads_to (node.Write a i j) k = node.Write a k j
leads_to (node.Read a c i j) k = node.Read a c k j

-- beginning b, of so many nodes, leads from one node to another
abbrev pub Leads : List Node → List Node → ℕ → ℕ → ℕ → ℕ → Type 0
Leads nodes beginnings zero b from to = (b ≡ 0) × (from ≡ to)
Leads nodes beginnings (suc d) b from to =
    (k before last : ℕ) × (n : Node) × (b ≡ k + 1) × (slice_get beginnings k ≡ Some (leads_to n before)) ×
    (slice_get nodes last ≡ Some (leads_to n to)) × Leads nodes beginnings d before from last

-- each mark says where a beginning leads to
abbrev pub AreMarks : List Node → List Node → List Mark → Type 0
AreMarks nodes beginnings marks =
    (k : ℕ) (m : Mark) → slice_get marks k ≡ Some m → (d : ℕ) × Leads nodes beginnings d m.beginning m.root m.node

-- these are marks, with some list of beginnings
abbrev pub HaveMarks : List Node → List Mark → Type 0
HaveMarks nodes marks = (beginnings : List Node) × AreMarks nodes beginnings marks
