use Rattle.std.proofs.Common.{length, refl, arith}
use Rattle.std.proofs.lemmas.Option.{slice_get_read}
use Rattle.arbitration.specs.Frames.{trees_of}
use Rattle.arbitration.proofs.FrameLemmas.{named_as}
use Rattle.arbitration.proofs.frames.Frames.has_at.Goals as goal

pub returns-then-k-len : goal.returns-then-k-len
returns-then-k-len c =
    let es = c.args.self.now.entries.items in
    let e = c.requires c.args.k c.index.result.now (slice_get_read es (length es) c.args.k c.index.result.now refl (omega arith) c.index.ensures) in
    named_as (trees_of es) c.args.k c.index.result.now.frame c.args.frame.now c.same_frames.result e.named c.same_frames.ensures
