use Rattle.std.proofs.Common.{◌≡◌, ℕ, length, sym, subst, arith}
use Rattle.arbitration.specs.declared.frames.Entry.{Entry}
use Rattle.arbitration.specs.Frames.{Names, frame_of, trees_of}
use Rattle.arbitration.proofs.FrameLemmas.{push_frames, push_named}
use Rattle.arbitration.proofs.frames.Frames.put.Goals as goal

pub returns-clause-frames : goal.returns-clause-frames
returns-clause-frames c =
    let e : Entry = record { frame = c.args.frame; alone = c.frames-alone.result } in
    push_frames c.args.self.now.entries.items c.push.new.self.items e c.in_ok-push.ensures.items c.requires.frame c.requires.frames c.frames-alone.ensures

pub returns-clause-named : goal.returns-clause-named
returns-clause-named c =
    let old = c.args.self.now.entries.items in
    let new = c.push.new.self.items in
    let e : Entry = record { frame = c.args.frame; alone = c.frames-alone.result } in
    let k : c.in_ok-k.k ≡ length old = omega (arith, c.in_ok-k.ensures, c.len.ensures) in
    subst (λ (n : ℕ). Names (trees_of new) n (frame_of (trees_of old) c.args.frame)) (sym k) (push_named old new e c.in_ok-push.ensures.items c.requires.frame)
