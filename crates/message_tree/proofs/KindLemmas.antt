-- Kinds that meet.
use Rattle.std.proofs.Common.{◌≡◌, refl, inl}
use Rattle.message_tree.specs.declared.items.Kind.{Kind}
use Rattle.message_tree.specs.declared.items.Kind.TheVariants as kind
use Rattle.message_tree.specs.Items.{KindsClash}

-- two kinds that don't clash are one
pub one_kind : (j k : Kind) → (KindsClash j k → ⊥) → j ≡ k
one_kind kind.Sent kind.Sent n = refl
one_kind kind.Heard kind.Heard n = refl
one_kind kind.Again kind.Again n = refl
one_kind kind.Stop kind.Stop n = refl
one_kind kind.Claim kind.Claim n = refl
one_kind _ _ n = absurd (n (inl (λ e. cc)))
