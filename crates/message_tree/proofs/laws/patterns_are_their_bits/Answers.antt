-- The bits give the two bytes, and the ghost fields are propositions.
use Rattle.std.proofs.Common.{◌≡◌, ℕ, ◌<◌, ◌^◌, bit_and, ◌∙◌, ap, subst}
use Rattle.std.proofs.Math.Bridge.{le_prop}
use Rattle.std.proofs.Math.Nat.{ℕ_set}
use Rattle.message_tree.specs.declared.bits.Pattern.{Pattern}
use Rattle.message_tree.specs.declared.bits.Address.{Address}
use Rattle.message_tree.specs.Patterns.{pattern_bits, address_bits}
use Rattle.message_tree.proofs.BitLemmas.{same_known, same_value}
use Rattle.message_tree.proofs.laws.patterns_are_their_bits.Goals as goal

-- bytes with the two facts that a pattern and an address of a width keep
record Bytes (width : ℕ) : Type 0 where
  known : ℕ
  value : ℕ
  fits : known < 2 ^ width
  masked : bit_and value known ≡ value

same_bytes : (width : ℕ) (x y : Bytes width) → x.known ≡ y.known → x.value ≡ y.value → x ≡ y
same_bytes width x y e f =
    let made : x.known < 2 ^ width → bit_and x.value x.known ≡ x.value → Bytes width = λ h m. record { known = x.known; value = x.value; fits = h; masked = m } in
    let at_value : ℕ → Type 0 = λ v. (h : x.known < 2 ^ width) (m : bit_and v x.known ≡ v) → x ≡ record { known = x.known; value = v; fits = h; masked = m } in
    let at_known : ℕ → Type 0 = λ k. (h : k < 2 ^ width) (m : bit_and y.value k ≡ y.value) → x ≡ record { known = k; value = y.value; fits = h; masked = m } in
    let here : at_value x.value = λ h m. ap (λ (g : x.known < 2 ^ width). made g x.masked) (le_prop x.fits h) ∙ ap (made h) (ℕ_set _ _ x.masked m) in
    subst at_known e (subst at_value f here) y.fits y.masked

pub returns-clause-patterns : goal.returns-clause-patterns
unfolding pattern_bits
returns-clause-patterns c = λ p q e.
    let known = same_known 8 p.known p.value q.known q.value p.known_is_byte q.known_is_byte e in
    let value = same_value 8 p.known p.value q.known q.value p.known_is_byte q.known_is_byte p.open_bits_are_zero q.open_bits_are_zero e in
    let bytes : Pattern → Bytes 8 = λ r. record { known = r.known; value = r.value; fits = r.known_is_byte; masked = r.open_bits_are_zero } in
    let pattern : Bytes 8 → Pattern = λ b. record { known = b.known; value = b.value; known_is_byte = b.fits; open_bits_are_zero = b.masked } in
    ap pattern (same_bytes 8 (bytes p) (bytes q) known value)

pub returns-clause-addresses : goal.returns-clause-addresses
unfolding address_bits
returns-clause-addresses c = λ p q e.
    let known = same_known 7 p.known p.value q.known q.value p.known_is_address q.known_is_address e in
    let value = same_value 7 p.known p.value q.known q.value p.known_is_address q.known_is_address p.open_bits_are_zero q.open_bits_are_zero e in
    let bytes : Address → Bytes 7 = λ r. record { known = r.known; value = r.value; fits = r.known_is_address; masked = r.open_bits_are_zero } in
    let address : Bytes 7 → Address = λ b. record { known = b.known; value = b.value; known_is_address = b.fits; open_bits_are_zero = b.masked } in
    ap address (same_bytes 7 (bytes p) (bytes q) known value)
