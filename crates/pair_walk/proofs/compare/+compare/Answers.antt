use Rattle.std.proofs.Common.{ap, ◌-◌, sym, ◌∙◌, arith}
use Rattle.message_tree.specs.declared.tree.Frame.{Frame}
use Rattle.message_tree.specs.Trees.{frame_tree, payload_tree, tail_tree, again}
use Rattle.certificate.specs.Proofs as proof
use Rattle.pair_walk.proofs.Nodes.{writes_acked, writes_refused, writes_proved, reads_acked, reads_refused, reads_proved, bytes_acked, bytes_refused, byte_meets_tail, tail_meets_byte, stop_meets_again, again_meets_stop, tails_again, reads_halt}
use Rattle.pair_walk.proofs.compare.+compare.Goals as goal

pub two_writes-returns-in-Err : goal.two_writes-returns-in-Err
two_writes-returns-in-Err g t c =
    let a = c.args in
    writes_acked a.a.now a.b.now (payload_tree a.x.now) (tail_tree a.r.now) (payload_tree a.y.now) (tail_tree a.s.now) c.in_default.ensures c.header_items.result c.header_items.ensures c.in-Err.halt c.behind.result c.in-Err.ensures c.behind.ensures

pub two_writes-returns-in-Err-compare_tails : goal.two_writes-returns-in-Err-compare_tails
two_writes-returns-in-Err-compare_tails g t c =
    let a = c.args in
    writes_refused a.a.now a.b.now (payload_tree a.x.now) (tail_tree a.r.now) (payload_tree a.y.now) (tail_tree a.s.now) c.in_default.ensures c.header_items-in-Err-compare_tails.result c.header_items-in-Err-compare_tails.ensures c.in-Ok.ensures.0 c.in-Ok.ensures.2 c.in-Err-compare_tails.halt c.behind-in-Err-compare_tails.result c.in-Err-compare_tails.ensures c.behind-in-Err-compare_tails.ensures

pub two_writes-returns-in_ok-byte-in-Ok-compare_tails :
    goal.two_writes-returns-in_ok-byte-in-Ok-compare_tails
two_writes-returns-in_ok-byte-in-Ok-compare_tails g t c =
    let a = c.args in
    let p = c.in-Ok.ensures in
    let q = c.in-Ok-compare_tails.ensures in (
      proof.byte p.0 q.0,
      c.in_ok-byte-in-Ok-compare_tails.ensures p.0 q.0 p.1 q.1,
      writes_proved a.a.now a.b.now (payload_tree a.x.now) (tail_tree a.r.now) (payload_tree a.y.now) (tail_tree a.s.now) c.in_default.ensures p.0 q.0 p.2 q.2,
    )

pub two_reads-returns-in-Err : goal.two_reads-returns-in-Err
two_reads-returns-in-Err g t c =
    let a = c.args in
    reads_acked a.a.now a.b.now a.c.now a.d.now (tail_tree a.x.now) (tail_tree a.r.now) (tail_tree a.y.now) (tail_tree a.s.now) c.in_default.ensures c.header_items.result c.header_items.ensures c.in-Err.halt c.behind.result c.in-Err.ensures c.behind.ensures

pub two_reads-returns-in-Err-compare_tails : goal.two_reads-returns-in-Err-compare_tails
two_reads-returns-in-Err-compare_tails g t c =
    let a = c.args in
    reads_refused a.a.now a.b.now a.c.now a.d.now (tail_tree a.x.now) (tail_tree a.r.now) (tail_tree a.y.now) (tail_tree a.s.now) c.in_default.ensures c.header_items-in-Err-compare_tails.result c.header_items-in-Err-compare_tails.ensures c.in-Ok.ensures.0 c.in-Ok.ensures.2 c.in-Err-compare_tails.halt c.behind-in-Err-compare_tails.result c.in-Err-compare_tails.ensures c.behind-in-Err-compare_tails.ensures

pub two_reads-returns-in_ok-read-in-Ok-compare_tails :
    goal.two_reads-returns-in_ok-read-in-Ok-compare_tails
two_reads-returns-in_ok-read-in-Ok-compare_tails g t c =
    let a = c.args in
    let p = c.in-Ok.ensures in
    let q = c.in-Ok-compare_tails.ensures in (
      proof.read p.0 q.0,
      c.in_ok-read-in-Ok-compare_tails.ensures p.0 q.0 p.1 q.1,
      reads_proved a.a.now a.b.now a.c.now a.d.now (tail_tree a.x.now) (tail_tree a.r.now) (tail_tree a.y.now) (tail_tree a.s.now) c.in_default.ensures p.0 q.0 p.2 q.2,
    )

pub two_bytes-returns-in-Err : goal.two_bytes-returns-in-Err
two_bytes-returns-in-Err g t c =
    let a = c.args in
    bytes_acked a.a.now a.b.now (payload_tree a.x.now) (tail_tree a.r.now) (payload_tree a.y.now) (tail_tree a.s.now) c.in_default.ensures c.byte_items.result c.byte_items.ensures c.in-Err.halt c.behind.result c.in-Err.ensures c.behind.ensures

pub two_bytes-returns-in-Err-compare_tails : goal.two_bytes-returns-in-Err-compare_tails
two_bytes-returns-in-Err-compare_tails g t c =
    let a = c.args in
    bytes_refused a.a.now a.b.now (payload_tree a.x.now) (tail_tree a.r.now) (payload_tree a.y.now) (tail_tree a.s.now) c.in_default.ensures c.byte_items-in-Err-compare_tails.result c.byte_items-in-Err-compare_tails.ensures c.in-Ok.ensures.0 c.in-Ok.ensures.2 c.in-Err-compare_tails.halt c.behind-in-Err-compare_tails.result c.in-Err-compare_tails.ensures c.behind-in-Err-compare_tails.ensures

pub two_bytes-returns-in_ok-byte-in-Ok-compare_tails :
    goal.two_bytes-returns-in_ok-byte-in-Ok-compare_tails
two_bytes-returns-in_ok-byte-in-Ok-compare_tails g t c =
    let p = c.in-Ok.ensures in
    let q = c.in-Ok-compare_tails.ensures in
    (proof.byte p.0 q.0, c.in_ok-byte-in-Ok-compare_tails.ensures p.0 q.0 p.1 q.1, (c.in_default.ensures, p.2, q.2))

pub compare_payloads-returns-in-Last-y : goal.compare_payloads-returns-in-Last-y
compare_payloads-returns-in-Last-y g t c =
    byte_meets_tail (payload_tree c.args.x.now) (payload_tree c.args.y.now) c.in-Byte.a (payload_tree c.in-Byte.x.value) (tail_tree c.in-Byte.r) (tail_tree c.in-Last-y.tail) (ap payload_tree c.in-Byte.is) (ap payload_tree c.in-Last-y.is) c.tail_kind.result c.tail_kind.ensures c.clash.result c.clash.ensures

pub compare_payloads-returns-in-Byte-y-2 : goal.compare_payloads-returns-in-Byte-y-2
compare_payloads-returns-in-Byte-y-2 g t c =
    tail_meets_byte (payload_tree c.args.x.now) (payload_tree c.args.y.now) c.in-Byte-y-2.bits (payload_tree c.in-Byte-y-2.acked.value) (tail_tree c.in-Byte-y-2.refused) (tail_tree c.in-Last.tail) (ap payload_tree c.in-Byte-y-2.is) (ap payload_tree c.in-Last.is) c.tail_kind-in-Byte-y-2.result c.tail_kind-in-Byte-y-2.ensures c.clash-in-Byte-y-2.result c.clash-in-Byte-y-2.ensures

pub compare_counts-returns-in-Err : goal.compare_counts-returns-in-Err
compare_counts-returns-in-Err g t c =
    let common = c.meets.ensures.0 c.if-not-meets.false in
    reads_halt c.args.c.now c.args.d.now (tail_tree c.args.x.now) (tail_tree c.args.y.now) (c.min.result - 1) common (omega (arith, c.args.c.now.positive, c.args.c.now.ordered, c.args.d.now.positive, c.args.d.now.ordered, c.min.ensures, c.greatest.ensures, c.greatest-in-Err.ensures)) c.in-Err.halt c.behind_read.result c.in-Err.ensures c.behind_read.ensures

pub compare_tails-returns-in-Again-s : goal.compare_tails-returns-in-Again-s
compare_tails-returns-in-Again-s g t c =
    stop_meets_again (tail_tree c.args.r.now) (tail_tree c.args.s.now) (frame_tree c.in-Again-s.field-0.value) (ap tail_tree c.in-Stop.is) (ap tail_tree c.in-Again-s.is) c.clash.result c.clash.ensures

pub compare_tails-returns-in-Stop-s-2 : goal.compare_tails-returns-in-Stop-s-2
compare_tails-returns-in-Stop-s-2 g t c =
    again_meets_stop (tail_tree c.args.r.now) (tail_tree c.args.s.now) (frame_tree c.in-Again.f.value) (ap tail_tree c.in-Again.is) (ap tail_tree c.in-Stop-s-2.is) c.clash-in-Stop-s-2.result c.clash-in-Stop-s-2.ensures

pub compare_tails-returns-in-Err : goal.compare_tails-returns-in-Err
compare_tails-returns-in-Err g t c =
    let f = ap tail_tree c.in-Again.is ∙ ap (λ (p : Frame). again (frame_tree p)) (sym c.deref.ensures) in
    let h = ap tail_tree c.in-Again-s-2.is ∙ ap (λ (p : Frame). again (frame_tree p)) (sym c.deref-in-Again-s-2.ensures) in
    tails_again (tail_tree c.args.r.now) (tail_tree c.args.s.now) (frame_tree c.deref.result.now) (frame_tree c.deref-in-Again-s-2.result.now) f h c.in-Err.halt c.behind.result c.in-Err.ensures c.behind.ensures
