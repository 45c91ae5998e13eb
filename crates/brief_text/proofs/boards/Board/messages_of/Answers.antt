use Rattle.std.proofs.Common.{[], ◌∷◌, ◌++◌, map, ap, ◌∙◌}
use Rattle.std.specs.Prelude.{if◌then◌else◌}
use Rattle.std.specs.List.{flat_map}
use Rattle.plan_core.specs.NameBytes.{name_bytes}
use Rattle.brief_text.proofs.PushLemmas.{one_further, names_where}
use Rattle.std.proofs.lemmas.List.{take_all}
use Rattle.plan_core.specs.declared.names.Name.{Name}
use Rattle.brief_text.specs.Splitting.{is_in_part, labels_of}
use Rattle.brief_text.specs.Standing.{draft, side}
use Rattle.brief_text.proofs.boards.Board.messages_of.Goals as goal

pub is_in_part-requires : goal.is_in_part-requires
is_in_part-requires c = ap (map name_bytes) c.as_slice.ensures.value ∙ c.in_ok-named.ensures

pub loop-message-preserved : goal.loop-message-preserved
loop-message-preserved c =
    let d = draft c.args.self.now in
    let s = side c.args.label.now in
    let g = λ (it : Name). if is_in_part d (labels_of d s.controller) s (name_bytes it) then name_bytes it ∷ [] else [] in
    let adds = c.in_ok-push_if.ensures ∙ ap (λ t. map name_bytes c.loop-message.messages.items ++ (if t then name_bytes c.message-item.result ∷ [] else [])) c.in_ok-is_in_part.ensures in
    one_further g c.args.listed.now [] _ _ c.loop-message.message-index c.message-item.result c.loop-message-test.true c.message-item.is c.loop-message.invariant adds

pub returns : goal.returns
returns c =
    let d = draft c.args.self.now in
    let s = side c.args.label.now in
    let p = is_in_part d (labels_of d s.controller) s in
    c.loop-message.invariant
    ∙ ap (flat_map (λ it. if p (name_bytes it) then name_bytes it ∷ [] else [])) (take_all c.loop-message.message-index c.args.listed.now c.loop-message-test.false)
    ∙ names_where name_bytes p c.args.listed.now
