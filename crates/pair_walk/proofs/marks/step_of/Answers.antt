use Rattle.std.proofs.Common.{refl}
use Rattle.pair_walk.proofs.marks.step_of.Goals as goal

pub returns-in-Again : goal.returns-in-Again
returns-in-Again c = let e = c.in-Again.is in rw e (refl, refl)

pub returns-in-Byte : goal.returns-in-Byte
returns-in-Byte c = let e = c.in-Byte.is in rw e (refl, refl)

pub returns-in-Write : goal.returns-in-Write
returns-in-Write c = let e = c.in-Write.is in rw e (refl, refl)

pub returns-in-Read : goal.returns-in-Read
returns-in-Read c = let e = c.in-Read.is in rw e (refl, refl)
