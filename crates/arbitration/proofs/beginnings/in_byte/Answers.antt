use Rattle.arbitration.proofs.CommonBytes.{in_byte}
use Rattle.arbitration.proofs.beginnings.in_byte.Goals as goal

pub returns : goal.returns
returns c s t p h =
    in_byte s t c.args.parted c.args.refused c.union.result p h (λ way. let e = c.union.ensures way in let f = c.after.ensures way in cc)
