use Rattle.std.proofs.Common.{◌+◌, refl}
use Rattle.arbitration.proofs.CommonBytes.{longer_beginning}
use Rattle.arbitration.proofs.beginnings.Beginning.and.Goals as goal

pub returns : goal.returns
returns c ss ts s t w m h =
    longer_beginning ss ts s t c.args.self (record { bytes = c.args.self.bytes + 1; outcomes = c.union.result }) c.args.here w m h refl (λ way. let e = c.union.ensures way in let f = c.after-here.ensures way in cc)
