use Rattle.std.proofs.Common.{◌≡◌, ◌+◌, ℕ, length}
use Rattle.message_tree.specs.Texts.{PayloadText}
use Rattle.arbitration.specs.Frames.{AreEndings, rest_after, trees_of}
use Rattle.arbitration.specs.Ways.{AreOutcomes}
use Rattle.arbitration.proofs.frames.Frames.endings.Given as goal

-- the last n bytes
abbrev pub invariant-loop-n : goal.invariant-loop-n
invariant-loop-n l =
    record {
      all : length l.endings.items ≡ l.n + 1;
      each : AreEndings (trees_of l.self.entries.items) l.row l.endings.items;
      ending : (k : ℕ) → l.n + k ≡ length l.row.bytes.items → AreOutcomes (PayloadText (rest_after k (trees_of l.self.entries.items) l.row)) (PayloadText (rest_after k (trees_of l.self.entries.items) l.row)) l.ending;
    }
