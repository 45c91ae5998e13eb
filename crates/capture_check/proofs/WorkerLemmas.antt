-- Lists of answers that are all Ok.
use Rattle.std.proofs.Common.{List, [], ◌∷◌, Result, Ok, Err, MatchResult, IfOk, map}
use Rattle.std.specs.List.{AllZip}

pub all_answered : {X Y : Type 0} (E : Type 0) (R : X → Y → Type 0) (xs : List X) (ys : List Y) → AllZip (λ x (answer : Result Y E). IfOk answer (R x)) xs (map Ok ys) → AllZip R xs ys
all_answered E R [] [] h = h
all_answered E R [] (y ∷ ys) h = h
all_answered E R (x ∷ xs) [] h = h
all_answered E R (x ∷ xs) (y ∷ ys) h = (h.0, all_answered E R xs ys h.1)

pub ok_part : {T E : Type 0} (r : Result T E) (A Q : T → Type 0) (B : E → Type 0) → MatchResult r A B → ((v : T) → A v → Q v) → IfOk r Q
ok_part (Ok v) A Q B h f = f v h
ok_part (Err e) A Q B h f = tt
