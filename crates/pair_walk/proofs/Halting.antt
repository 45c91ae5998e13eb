-- A clash after further items.
use Rattle.std.proofs.Common.{◌≡◌, ℕ, zero, suc, ◌-◌, ◌<◌, false, List, [], ◌∷◌, ◌++◌, reverse, replicate, refl, ap, sym, ◌∙◌, append_assoc, arith}
use Rattle.message_tree.specs.declared.items.Item.{Item}
use Rattle.message_tree.specs.declared.items.Item.TheVariants.{Sent, Heard}
use Rattle.pair_walk.specs.declared.halts.Halt.{Halt}
use Rattle.pair_walk.specs.declared.halts.Halt.TheVariants.{Clash, NoMemory}
use Rattle.pair_walk.specs.Compare.{HaltsBehind}
use Rattle.pair_walk.specs.Wires.{read_wire}

pub behind_both : (xs ys : List Item) (h m r : Halt) → HaltsBehind ys h m → HaltsBehind xs m r → HaltsBehind (xs ++ ys) h r
behind_both xs ys (Clash c) (Clash d) (Clash e) p q =
    (q.0 ∙ (ap (λ (zs : List Item). xs ++ zs) p.0 ∙ sym (append_assoc xs ys (reverse c.back.items))), q.1 ∙ p.1, q.2 ∙ p.2)
behind_both xs ys NoMemory (Clash d) r p q = absurd p
behind_both xs ys h NoMemory (Clash e) p q = absurd q
behind_both xs ys (Clash c) m NoMemory p q = tt
behind_both xs ys NoMemory m NoMemory p q = tt

pub read_wire_step : (more : ℕ) → 0 < more → read_wire more ≡ (replicate 8 (Heard false) ++ Sent false ∷ []) ++ read_wire (more - 1)
read_wire_step zero h = absurd (omega arith)
read_wire_step (suc k) h = let e : suc k - 1 ≡ k = omega arith in rw e refl
