use Rattle.std.proofs.Common.{◌≡◌, ◌++◌, List, ℕ, ap, sym, ◌∙◌, subst, flat_map, All, arith}
use Rattle.std.proofs.lemmas.Grind.{common_steps}
use Rattle.std.proofs.lemmas.List.Elements.{All-push}
use Rattle.std.proofs.lemmas.List.{flat_map_more}
use Rattle.std.proofs.lemmas.Iterator.Adapters.{YieldsList-from_vec}
use Rattle.std.proofs.lemmas.Iterator.Consumers.{YieldsList-turn}
use Rattle.pair_queue.specs.Seats.{Seat}
use Rattle.verdicts.specs.Parts.{items_of}
use Rattle.verdicts.proofs.sharing.gathered.Goals as goal

pub loop-part-preserved : goal.loop-part-preserved
loop-part-preserved g c =
    let more = c.in_ok-add.ensures in
    let inv = c.loop-part.invariant in
    let part = c.in-Some.part in
    let yielded = c.loop-part.yielded in
    let owner = c.args.owner in
    let t = YieldsList-turn (YieldsList-from_vec {s = c.into_iter-part-iterator.result} c.args.parts.items (cc) (cc)) yielded c.loop-part.part-iterator c.loop-part.yielded_by _ c.next.new.self part c.in-Some.is c.next.ensures.steps in
    let P : Seat → Type 0 = λ s. s.queue ≡ owner.queue in
    let thief : P part.thief = ap (λ p. p.thief.queue) t.1 ∙ (c.requires.parts _ part t.0).queue_is in (
      tt,
      tt,
      more.items ∙ ap (λ xs. xs ++ items_of part) inv.2 ∙ flat_map_more items_of c.args.found.items yielded part,
      more.numbers ∙ ap (λ (xs : List ℕ). xs ++ part.thief.taken) inv.3 ∙ flat_map_more (λ (s : Seat). s.taken) owner.taken c.loop-part.thieves.items part.thief ∙ ap (λ (ts : List Seat). owner.taken ++ flat_map (λ (s : Seat). s.taken) ts) (sym more.thieves),
      subst (All P) (sym more.thieves) (All-push P c.loop-part.thieves.items part.thief inv.4 thief),
      grind (arith, common_steps),
    )
