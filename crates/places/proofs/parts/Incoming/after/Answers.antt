use Rattle.std.proofs.Common.{◌≡◌, arith}
use Rattle.places.proofs.PartLemmas.{incoming_after_zero}
use Rattle.places.proofs.parts.Incoming.after.Goals as goal

pub returns-in-Sent-false : goal.returns-in-Sent-false
returns-in-Sent-false c = λ u.
    let none_left : c.args.self.now.left ≡ 0 = omega arith in
    rw (c.in-Sent-false.is, c.in-Sent-false.field-0-test) (incoming_after_zero c.args.self.now u none_left)
