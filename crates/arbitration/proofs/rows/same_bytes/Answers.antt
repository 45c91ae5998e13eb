use Rattle.std.proofs.Common.{◌≡◌, get_or, arith}
use Rattle.std.proofs.lemmas.List.{take_more_same}
use Rattle.arbitration.proofs.rows.same_bytes.Goals as goal

pub loop-k-preserved : goal.loop-k-preserved
loop-k-preserved c =
    let d = c.index.result.now in
    let same : get_or c.args.first.now.bytes.items c.loop-k.k d ≡ get_or c.args.second.now.bytes.items c.loop-k.k d =
    let e = c.index.ensures in
    let f = c.index-in-loop-k.ensures in
    let g = c.is_one.ensures c.if-not-is_one.false in
    cc in
    take_more_same c.args.first.now.bytes.items c.args.second.now.bytes.items c.loop-k.k d (omega arith) (omega arith) c.loop-k.invariant same
