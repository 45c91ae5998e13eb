use Rattle.std.proofs.Common.{arith, inl, refl}
use Rattle.std.proofs.lemmas.Option.{IfSome_then}
use Rattle.message_tree.specs.Trees.{frame_tree, payload_tree, tail_tree}
use Rattle.certificate.specs.Proofs.{short}
use Rattle.cert_check.proofs.QuickLemmas.{writes_begin, bytes_begin, reads_begin, agains_begin}
use Rattle.cert_check.proofs.quick.+after.Goals as goal

pub after_frames-returns-in-Write-g : goal.after_frames-returns-in-Write-g
after_frames-returns-in-Write-g t c =
    let two = (rw (c.deref.ensures, c.deref-in-Write-g.ensures) at c.after_bytes.ensures) in
    rw (c.in-Write.is, c.in-Write-g.is)
    (IfSome_then c.after_bytes.result two (λ rest h. writes_begin c.in_ok-below.below c.args.room c.args.text.now c.in-Some.text.now rest.now (omega (arith, c.in_ok-below.ensures)) c.in-Write.address c.in-Write-g.address (payload_tree c.in-Write.x.value) (payload_tree c.in-Write-g.y.value) (tail_tree c.in-Write.r) (tail_tree c.in-Write-g.s) c.in-Some.ensures h))

pub after_frames-returns-in_ok-after_reads-in-Read-g-2 : goal.after_frames-returns-in_ok-after_reads-in-Read-g-2
after_frames-returns-in_ok-after_reads-in-Read-g-2 t c =
    let f = c.in-Read-f in
    let g = c.in-Read-g-2 in
    let first = c.in_ok-after_reads-in-Read-g-2 in
    rw (c.in-Read-f.is, c.in-Read-g-2.is)
    (IfSome_then c.after_refused.result c.after_refused.ensures (λ rest h. reads_begin c.in_ok-below.below c.args.room c.args.text.now c.in-Some-after_token.text.now rest.now (omega (arith, c.in_ok-below.ensures)) f.address g.address f.c g.d (tail_tree f.x) (tail_tree g.y) (tail_tree f.r) (tail_tree g.s) first.field-0.now c.in-Some-after_token.ensures first.ensures h))

pub after_payloads-returns-in-Some : goal.after_payloads-returns-in-Some
after_payloads-returns-in-Some t c =
    let two = (rw (c.deref.ensures, c.deref-in-Some.ensures) at c.after_bytes.ensures) in
    let below = c.in_ok-below-in-Byte-y in
    rw (c.in-Byte.is, c.in-Byte-y.is)
    (IfSome_then c.after_bytes.result two (λ rest h. bytes_begin below.below c.args.room c.args.text.now c.in-Some.text.now rest.now (omega (arith, below.ensures)) c.in-Byte.a c.in-Byte-y.b (payload_tree c.in-Byte.x.value) (payload_tree c.in-Byte-y.y.value) (tail_tree c.in-Byte.r) (tail_tree c.in-Byte-y.s) c.in-Some.ensures h))

pub after_reads-returns-then-room-gt0 : goal.after_reads-returns-then-room-gt0
after_reads-returns-then-room-gt0 t c =
    let no = c.if-meets.false in
    IfSome_then c.after_byte.result c.after_byte.ensures (λ rest e. record {
      tree = short;
      printable = record { places = tt; path = omega (arith, c.if-room-gt0.true) };
      text_is = e;
      proves = inl (refl, λ m. let yes = c.meets.ensures.1 m in cc);
    })

pub after_tails-returns-in_ok-after_token-in-Again-s-2 :
    goal.after_tails-returns-in_ok-after_token-in-Again-s-2
after_tails-returns-in_ok-after_token-in-Again-s-2 t c =
    let b = (rw (c.deref.ensures, c.deref-in-Again-s-2.ensures) at c.after_frames.ensures) in
    let inner = c.in_ok-after_token-in-Again-s-2 in
    rw (c.in-Again.is, c.in-Again-s-2.is)
    (IfSome_then c.after_frames.result b (λ rest h. agains_begin c.in_ok-below.below c.args.room c.args.text.now inner.field-0.now rest.now (omega (arith, c.in_ok-below.ensures)) (frame_tree c.in-Again.f.value) (frame_tree c.in-Again-s-2.g.value) inner.ensures h))
