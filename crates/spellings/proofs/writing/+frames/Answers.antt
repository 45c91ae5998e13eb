use Rattle.std.proofs.Common.{OnOk, codes, subst, string_bytes, None, [], ◌∷◌}
use Rattle.message_tree.specs.Trees.{again, frame_tree, payload_tree, tail_tree}
use Rattle.spellings.specs.Canonical.{Adds, count_word}
use Rattle.spellings.specs.Runs.{run_before}
use Rattle.spellings.specs.Spelling.{target_word, data_word, run_words, frame_words, bytes_words, refused_words, next_words}
use Rattle.spellings.proofs.Adding.{then_adds, adds_three, adds_four, adds_five}
use Rattle.spellings.proofs.writing.+frames.Goals as goal

pub frames-returns-in_ok-after_refusal-in-Write : goal.frames-returns-in_ok-after_refusal-in-Write
frames-returns-in_ok-after_refusal-in-Write t c =
    let it = c.in-Write in
    rw it.is
    (adds_four c.payload.result _ _ _ _ _ (codes "write") (target_word it.target) (refused_words (tail_tree it.refused)) (bytes_words (payload_tree it.acked.value) None)
    c.in_ok-word-in-Write.ensures c.in_ok-address-in-Write.ensures c.in_ok-after_refusal-in-Write.ensures (subst (λ p. OnOk c.payload.result (Adds (string_bytes c.after_refusal.new.text) (string_bytes c.payload.new.text) (bytes_words (payload_tree p) None))) c.deref.ensures c.payload.ensures))

pub frames-returns-in_ok-after_refusal-in-Read : goal.frames-returns-in_ok-after_refusal-in-Read
frames-returns-in_ok-after_refusal-in-Read t c =
    let it = c.in-Read in
    rw it.is
    (adds_five c.following.result _ _ _ _ _ _ (codes "read") (target_word it.target) (count_word it.bytes) (refused_words (tail_tree it.refused)) (next_words (tail_tree it.after))
    c.in_ok-word-in-Read.ensures c.in_ok-address-in-Read.ensures c.in_ok-count-in-Read.ensures c.in_ok-after_refusal-in-Read.ensures c.following.ensures)

pub payload-returns-in_ok-after_refusal-in-Again : goal.payload-returns-in_ok-after_refusal-in-Again
payload-returns-in_ok-after_refusal-in-Again t c =
    let it = c.in-Byte in
    rw it.is
    (rw c.in-Again.is
    (then_adds c.payload-in-Again.result (string_bytes c.args.text.now) (string_bytes c.end_run.new.text) (string_bytes c.payload-in-Again.new.text) (run_words (run_before c.args.run)) _
    c.in_ok-end_run-in-Again.ensures
    (adds_three c.payload-in-Again.result (string_bytes c.end_run.new.text) (string_bytes c.pattern.new.text) (string_bytes c.after_refusal.new.text) (string_bytes c.payload-in-Again.new.text) (data_word it.bits) (refused_words (again (frame_tree c.in-Again.field-0.value))) (bytes_words (payload_tree it.acked.value) None)
    c.in_ok-pattern-in-Again.ensures
    (subst (λ x. Adds (string_bytes c.pattern.new.text) (string_bytes c.after_refusal.new.text) (refused_words (tail_tree x))) c.in-Again.is c.in_ok-after_refusal-in-Again.ensures)
    (subst (λ p. OnOk c.payload-in-Again.result (Adds (string_bytes c.after_refusal.new.text) (string_bytes c.payload-in-Again.new.text) (bytes_words (payload_tree p) None))) c.deref-in-Again.ensures c.payload-in-Again.ensures))))

pub after_refusal-returns-in_ok-frames-in-Again : goal.after_refusal-returns-in_ok-frames-in-Again
after_refusal-returns-in_ok-frames-in-Again t c =
    let it = c.in-Again in
    rw it.is
    (adds_four c.word-in-Again-2.result _ _ _ _ _ (codes "else") (codes "(") (frame_words (frame_tree it.frame.value)) (codes ")" ∷ [])
    c.in_ok-word-in-Again.ensures c.in_ok-word-in-Again-2.ensures
    (subst (λ f. Adds (string_bytes c.word-in-Again.new.text) (string_bytes c.frames.new.text) (frame_words (frame_tree f))) c.deref.ensures c.in_ok-frames-in-Again.ensures)
    c.word-in-Again-2.ensures)
