use Rattle.std.proofs.Common.{◌≡◌, ◌-◌, ap, sym, ◌∙◌, arith}
use Rattle.message_tree.specs.Trees.{payload_tree}
use Rattle.brief_text.specs.Codes.{times_after}
use Rattle.brief_text.specs.Drafts.{bytes_on, tail_on, repeated_on, how_often}
use Rattle.brief_text.specs.Standing.{brief_bytes, brief_tail, draft, with_device, times_of}
use Rattle.brief_text.proofs.PathLemmas.{acked_of, one_copy_more, all_copies}
use Rattle.brief_text.proofs.boards.Board.+meaning.Goals as goal

pub data-loop-k-init : goal.data-loop-k-init
data-loop-k-init t c =
    let d = with_device (draft c.args.self.now) c.args.in_place in
    let n = c.args.n in
    let times = c.times-times.result in
    let bits = c.bits-bits.result in
    let acked = brief_bytes c.in-Byte.acked.value in
    let shape = ap brief_bytes c.in-Byte.is in
    let whole : times ≡ times - 0 = omega arith in
    c.in_ok-payload-in-Byte.ensures
    ∙ ap (λ x. bytes_on d n (brief_bytes x) c.after_all.result) c.deref.ensures
    ∙ ap (bytes_on d n acked) c.after_all.ensures
    ∙ ap (λ k. bytes_on d n acked (times_after k bits c.args.path)) whole
    ∙ ap (λ b. bytes_on d n (acked_of b) (times_after (times - 0) bits c.args.path)) (sym shape)

pub data-loop-k-preserved : goal.data-loop-k-preserved
data-loop-k-preserved t c =
    let d = with_device (draft c.args.self.now) c.args.in_place in
    let n = c.args.n in
    let acked = bytes_on d n (acked_of (brief_bytes c.args.data.now)) in
    let refused = tail_on d n (brief_tail c.in-Byte.refused) in
    let boxed : payload_tree c.in_ok-new-in-Byte.field-0.value ≡ payload_tree c.loop-k.payload = ap payload_tree c.in_ok-new-in-Byte.ensures.ok in
    one_copy_more c.bits-bits.result acked refused c.args.path c.loop-k.k c.times-times.result _ _ (omega (arith, c.loop-k-test.true)) (boxed ∙ c.loop-k.invariant)
    (c.in_ok-refused-in-Byte.ensures ∙ ap refused c.after_all-in-loop-k.ensures)

pub data-returns-after-loop-k : goal.data-returns-after-loop-k
data-returns-after-loop-k t c =
    let d = with_device (draft c.args.self.now) c.args.in_place in
    let n = c.args.n in
    let times = c.times-times.result in
    let bits = c.bits-bits.result in
    let refused = tail_on d n (brief_tail c.in-Byte.refused) in
    let acked = bytes_on d n (brief_bytes c.in-Byte.acked.value) in
    let shape = ap brief_bytes c.in-Byte.is in
    c.loop-k.invariant
    ∙ all_copies bits (bytes_on d n (acked_of (brief_bytes c.args.data.now))) refused c.args.path c.loop-k.k times (omega (arith, c.loop-k-test.false, c.loop-k.auto.k-end))
    ∙ ap (λ b. repeated_on times bits (bytes_on d n (acked_of b)) refused c.args.path) shape
    ∙ ap (λ k. repeated_on k bits acked refused c.args.path) c.times-times.ensures
    ∙ ap (λ b. repeated_on (how_often n (times_of c.in-Byte.often)) b acked refused c.args.path) c.bits-bits.ensures
    ∙ sym (ap (λ b. bytes_on d n b c.args.path) shape)
