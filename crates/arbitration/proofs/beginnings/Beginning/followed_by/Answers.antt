use Rattle.arbitration.proofs.CommonBytes.{followed}
use Rattle.arbitration.proofs.beginnings.Beginning.followed_by.Goals as goal

pub returns : goal.returns
returns c ss ts x y w h =
    followed ss ts c.args.self x y c.args.rest c.union.result w h (λ way. let e = c.union.ensures way in let f = c.after.ensures way in cc)
