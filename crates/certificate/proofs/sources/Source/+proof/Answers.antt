use Rattle.std.proofs.Common.{◌≡◌, suc, refl, arith}
use Rattle.certificate.specs.Reader.{node_in}
use Rattle.certificate.proofs.sources.Source.+proof.Goals as goal

pub proof-returns-in_default : goal.proof-returns-in_default
unfolding node_in
proof-returns-in_default t c =
    let none : c.args.room ≡ 0 = omega (arith, c.in_default.ensures) in rw (none, c.in_ok-token.ensures, c.too_deep.ensures) refl

pub proof-returns : goal.proof-returns
unfolding node_in
proof-returns t c =
    let some : c.args.room ≡ suc c.in-Some.room = omega (arith, c.in-Some.ensures) in rw (some, c.in_ok-token.ensures) c.node.ensures
