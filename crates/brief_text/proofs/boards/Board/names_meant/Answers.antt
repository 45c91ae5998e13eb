use Rattle.std.proofs.Common.{◌≡◌, [], ◌∷◌, ◌++◌, map, ap, ◌∙◌}
use Rattle.brief_text.specs.declared.splitting.Part as program
use Rattle.std.specs.Prelude.{if◌then◌else◌}
use Rattle.std.specs.List.{flat_map}
use Rattle.plan_core.specs.NameBytes.{name_bytes}
use Rattle.brief_text.proofs.PushLemmas.{one_further, map_where}
use Rattle.std.proofs.lemmas.List.{take_all}
use Rattle.std.specs.List.{filter}
use Rattle.brief_text.specs.Parting.{part}
use Rattle.brief_text.specs.Splitting.{side_means, part_name, label_names, label_messages}
use Rattle.brief_text.specs.Standing.{draft, side}
use Rattle.brief_text.proofs.boards.Board.names_meant.Goals as goal

pub loop-part-preserved : goal.loop-part-preserved
loop-part-preserved c =
    let d = draft c.args.self.now in
    let s = side c.args.party.now in
    let it = part c.part-item.result in
    let g = λ (one : program.Part). if side_means d s (part one) then part_name (part one) ∷ [] else [] in
    let named : map name_bytes c.as_slice.result.now ≡ label_names d s ++ label_messages d s = ap (map name_bytes) c.as_slice.ensures.value ∙ c.in_ok-named.ensures in
    let so_far = map name_bytes c.loop-part.names.items in
    let adds = c.in_ok-push_if.ensures
    ∙ ap (λ t. so_far ++ (if t then name_bytes c.in_ok-name.name ∷ [] else [])) (c.means-is_meant.ensures d named)
    ∙ ap (λ n. so_far ++ (if side_means d s it then n ∷ [] else [])) c.in_ok-name.ensures in
    one_further g c.args.all.now [] _ _ c.loop-part.part-index c.part-item.result c.loop-part-test.true c.part-item.is c.loop-part.invariant adds

pub returns : goal.returns
returns c =
    let d = draft c.args.self.now in
    let s = side c.args.party.now in
    c.loop-part.invariant
    ∙ ap (flat_map (λ one. if side_means d s (part one) then part_name (part one) ∷ [] else [])) (take_all c.loop-part.part-index c.args.all.now c.loop-part-test.false)
    ∙ map_where part (side_means d s) part_name c.args.all.now
    ∙ ap (λ ps. map part_name (filter (side_means d s) ps)) c.requires
