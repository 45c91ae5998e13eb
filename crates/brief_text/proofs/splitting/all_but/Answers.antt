use Rattle.std.proofs.Common.{ℕ, List, [], ◌∷◌, ◌++◌, map, ap, ◌∙◌}
use Rattle.plan_core.specs.declared.names.Name.{Name}
use Rattle.std.specs.Prelude.{if◌then◌else◌, not}
use Rattle.std.specs.List.{flat_map}
use Rattle.std.specs.Str.{bytes_eq}
use Rattle.plan_core.specs.NameBytes.{name_bytes}
use Rattle.brief_text.proofs.PushLemmas.{one_further, names_where}
use Rattle.std.proofs.lemmas.List.{take_all}
use Rattle.std.specs.List.{list_any}
use Rattle.brief_text.proofs.splitting.all_but.Goals as goal

pub loop-name-preserved : goal.loop-name-preserved
loop-name-preserved c =
    let g = λ (it : Name). if not (list_any (λ other. bytes_eq other (name_bytes it)) (map name_bytes c.args.others.now)) then name_bytes it ∷ [] else [] in
    let adds = c.in_ok-push_if.ensures ∙ ap (λ t. map name_bytes c.loop-name.left.items ++ (if not t then name_bytes c.name-item.result ∷ [] else [])) c.is_among.ensures in
    one_further g c.args.names.now [] _ _ c.loop-name.name-index c.name-item.result c.loop-name-test.true c.name-item.is c.loop-name.invariant adds

pub returns : goal.returns
returns c =
    let p = λ (name : List ℕ). not (list_any (λ other. bytes_eq other name) (map name_bytes c.args.others.now)) in
    c.loop-name.invariant
    ∙ ap (flat_map (λ it. if p (name_bytes it) then name_bytes it ∷ [] else [])) (take_all c.loop-name.name-index c.args.names.now c.loop-name-test.false)
    ∙ names_where name_bytes p c.args.names.now
