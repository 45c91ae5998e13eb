use Rattle.std.proofs.Common.{◌+◌, ◌*◌, take}
use Rattle.arbitration.specs.Frames.{next_height, row_height, frame_height, steps_of, trees_of}
use Rattle.arbitration.specs.Ways.{IsBeginning}
use Rattle.arbitration.proofs.frames.Frames.+compare.Given as goal

abbrev pub decreases-numbers : goal.decreases-numbers
decreases-numbers l = 8 * l.first + 7

abbrev pub decreases-frames : goal.decreases-frames
decreases-frames l = 8 * frame_height l.first.now + 5

abbrev pub decreases-acked : goal.decreases-acked
decreases-acked l = 8 * frame_height l.first.now + 4

abbrev pub decreases-reads : goal.decreases-reads
decreases-reads l = 8 * next_height l.first.now.after + 3

abbrev pub decreases-rows : goal.decreases-rows
decreases-rows l = 8 * row_height l.first.now + 3

abbrev pub decreases-ends : goal.decreases-ends
decreases-ends l = 8 * next_height l.first.now.last + 2

abbrev pub decreases-nexts : goal.decreases-nexts
decreases-nexts l = 8 * next_height l.first

-- the bytes before place k
abbrev pub invariant-rows-loop-k : goal.invariant-rows-loop-k
invariant-rows-loop-k l =
    let known = trees_of l.self.entries.items in
    IsBeginning (take l.k (steps_of known l.first)) (take l.k (steps_of known l.second)) l.met
