use Rattle.std.proofs.Common.{◌≡◌, ℕ, [], ◌∷◌, ◌++◌, Some, slice_get, refl, sym, subst, arith}
use Rattle.message_tree.specs.Patterns.{address_bits}
use Rattle.places.proofs.bytes.header_bit.Goals as goal

pub returns-else-k-lt7 : goal.returns-else-k-lt7
unfolding address_bits
returns-else-k-lt7 c =
    let last : c.args.k ≡ 7 = omega arith in
    subst (λ (k : ℕ). slice_get (address_bits c.args.address.now ++ c.args.direction ∷ []) k ≡ Some c.args.direction) (sym last) refl
