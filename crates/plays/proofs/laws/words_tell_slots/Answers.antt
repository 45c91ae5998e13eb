use Rattle.std.proofs.Common.{◌≡◌, length, sym, subst, arith, inl, inr}
use Rattle.plan_core.specs.Rounds.{IsWire, survivors}
use Rattle.plays.specs.Plays.{put_in}
use Rattle.plays.specs.Words.{word_of, count_in, left_in}
use Rattle.plays.proofs.RunLemmas.{one_wire, all_put_is_complete}
use Rattle.plays.proofs.SlotLemmas.{slot_tells}
use Rattle.plays.proofs.laws.words_tell_slots.Goals as goal

pub returns-clause-bound : goal.returns-clause-bound
returns-clause-bound c game puts v u among live is p = elim (slot_tells game puts v u among live is p.0 p.1 p.2) [
  | inl o ↦ omega (arith, o.some_missing)
  | inr k ↦ omega (arith, k.all_there)
]

pub returns-clause-complete : goal.returns-clause-complete
returns-clause-complete c game puts v u among live is p = (
  λ e. elim (slot_tells game puts v u among live is p.0 p.1 p.2) [
    | inl o ↦ absurd (omega (arith, o.some_missing, e))
    | inr k ↦ k.have_put
  ],
  λ all. (all_put_is_complete game puts v u among live is p all).all_there,
)

pub returns-clause-shown : goal.returns-clause-shown
returns-clause-shown c game puts v u among live is p all =
    let k = all_put_is_complete game puts v u among live is p all in
    subst (IsWire among (put_in game puts (length v))) k.is_shown k.is_slot.is_wire

pub returns-clause-left : goal.returns-clause-left
returns-clause-left c game puts v u among live w is p all wire =
    let k = all_put_is_complete game puts v u among live is p all in
    let e : w ≡ k.shown = one_wire among (put_in game puts (length v)) k.shown w k.is_slot.is_wire wire in
    subst (λ x. count_in game.starters (survivors among (put_in game puts (length v)) x) ≡ left_in (word_of game.starters puts (length v)) (count_in game.starters among)) (sym e) k.left
