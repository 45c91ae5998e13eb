use Rattle.std.proofs.Common.{◌≡◌, ℕ, zero, suc, refl, sym, ◌∙◌}
use Rattle.std.specs.Int.{bit_at}
use Rattle.std.proofs.lemmas.Nat.Bits.{shr_and_one}
use Rattle.message_tree.specs.declared.bits.Bit.TheVariants.{Zero}
use Rattle.message_tree.specs.Bits.{bit_from}
use Rattle.message_tree.proofs.bits.bit_at.Goals as goal

zero_where : (known value : ℕ) → (known ≡ 0 → ⊥) → value ≡ 0 → Zero ≡ bit_from known value
zero_where zero value h e = absurd (h refl)
zero_where (suc k) value h e = rw e refl

pub returns-then-value-place-eq0 : goal.returns-then-value-place-eq0
returns-then-value-place-eq0 c = zero_where (bit_at c.args.known c.args.place) (bit_at c.args.value c.args.place)
    (λ e. c.if-known-place-eq0.false (shr_and_one c.args.known c.args.place ∙ e))
    (sym (shr_and_one c.args.value c.args.place) ∙ c.if-value-place-eq0.true)
