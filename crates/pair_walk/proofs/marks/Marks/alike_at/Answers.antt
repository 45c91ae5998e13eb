use Rattle.std.proofs.Common.{refl, length, arith}
use Rattle.std.proofs.lemmas.Option.{slice_get_read}
use Rattle.pair_walk.proofs.MarkLemmas.{from_marks}
use Rattle.pair_walk.proofs.marks.Marks.alike_at.Goals as goal

pub returns-then-p-q : goal.returns-then-p-q
returns-then-p-q c =
    let marks = c.args.self.now.marks.items in
    let p = c.index-p.result.now in
    let q = c.index-q.result.now in
    let e = slice_get_read marks (length marks) c.args.i p refl (omega arith) c.index-p.ensures in
    let d = slice_get_read marks (length marks) c.args.j q refl (omega arith) c.index-q.ensures in
    from_marks marks c.args.i c.args.j c.args.a c.args.b p q e d c.if-p-a.true c.if-q-b.true c.if-p-q.true
