use Rattle.std.proofs.Common.{codes, subst, string_bytes, [], ◌∷◌}
use Rattle.message_tree.specs.Trees.{payload_tree, tail_tree}
use Rattle.plan_text.specs.Symbols.{address_word, pattern_word}
use Rattle.spellings.specs.Canonical.{Adds, count_word, payload_words, tail_words}
use Rattle.spellings.proofs.Adding.{then_adds, adds_three, adds_four, adds_five}
use Rattle.spellings.proofs.print.+frame.Goals as goal

pub frame-returns-in_ok-word-in-Write-2 : goal.frame-returns-in_ok-word-in-Write-2
frame-returns-in_ok-word-in-Write-2 t c =
    let it = c.in-Write in
    let last = then_adds c.tail.result _ _ _ (codes "else" ∷ []) (tail_words (tail_tree it.refused)) c.in_ok-word-in-Write-2.ensures c.tail.ensures in
    rw it.is
    (adds_four c.tail.result _ _ _ _ _ (codes "write") (address_word it.target) (payload_words (payload_tree it.acked.value)) (codes "else" ∷ tail_words (tail_tree it.refused))
    c.in_ok-word-in-Write.ensures c.in_ok-address-in-Write.ensures (subst (λ p. Adds (string_bytes c.address.new.text) (string_bytes c.payload.new.text) (payload_words (payload_tree p))) c.deref.ensures c.in_ok-payload-in-Write.ensures) last)

pub frame-returns-in_ok-word-in-Read-2 : goal.frame-returns-in_ok-word-in-Read-2
frame-returns-in_ok-word-in-Read-2 t c =
    let it = c.in-Read in
    let last = then_adds c.tail-in-Read-2.result _ _ _ (codes "else" ∷ []) (tail_words (tail_tree it.refused)) c.in_ok-word-in-Read-2.ensures c.tail-in-Read-2.ensures in
    rw it.is
    (adds_five c.tail-in-Read-2.result _ _ _ _ _ _ (codes "read") (address_word it.target) (count_word it.bytes) (tail_words (tail_tree it.after)) (codes "else" ∷ tail_words (tail_tree it.refused))
    c.in_ok-word-in-Read.ensures c.in_ok-address-in-Read.ensures c.in_ok-count-in-Read.ensures c.in_ok-tail-in-Read.ensures last)

pub payload-returns-in_ok-word-in-Byte : goal.payload-returns-in_ok-word-in-Byte
payload-returns-in_ok-word-in-Byte t c =
    let it = c.in-Byte in
    let last = then_adds c.tail.result _ _ _ (codes "else" ∷ []) (tail_words (tail_tree it.refused)) c.in_ok-word-in-Byte.ensures c.tail.ensures in
    rw it.is
    (adds_three c.tail.result _ _ _ _ (pattern_word it.bits) (payload_words (payload_tree it.acked.value)) (codes "else" ∷ tail_words (tail_tree it.refused))
    c.in_ok-pattern-in-Byte.ensures (subst (λ p. Adds (string_bytes c.pattern.new.text) (string_bytes c.payload.new.text) (payload_words (payload_tree p))) c.deref.ensures c.in_ok-payload-in-Byte.ensures) last)
