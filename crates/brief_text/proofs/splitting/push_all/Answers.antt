use Rattle.std.proofs.Common.{◌++◌, ◌∷◌, [], map, take, get_or, ap, sym, ◌∙◌}
use Rattle.std.proofs.lemmas.List.{append_assoc, map_push, map_more}
use Rattle.plan_core.specs.NameBytes.{name_bytes}
use Rattle.brief_text.proofs.splitting.push_all.Goals as goal

pub loop-name-preserved : goal.loop-name-preserved
loop-name-preserved c =
    let names = c.args.names.now in
    let i = c.loop-name.name-index in
    let name = c.name-item.result in
    let item = name_bytes (get_or names i name) in
    let before = map name_bytes c.args.to.now.items in
    let taken = map name_bytes (take i names) in
    let so_far = map name_bytes c.loop-name.to.items in
    ap (map name_bytes) c.in_ok-push.ensures.items ∙ map_push name_bytes c.loop-name.to.items c.in_ok-copied.field-0
    ∙ ap (λ n. so_far ++ n ∷ []) (c.in_ok-copied.ensures ∙ ap name_bytes c.name-item.is)
    ∙ ap (λ xs. xs ++ item ∷ []) c.loop-name.invariant
    ∙ append_assoc before taken (item ∷ [])
    ∙ ap (λ xs. before ++ xs) (sym (map_more name_bytes names i name c.loop-name-test.true))
