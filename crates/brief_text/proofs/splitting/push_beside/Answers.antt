use Rattle.std.proofs.Common.{[], ◌∷◌, ◌++◌, map, ap, ◌∙◌}
use Rattle.brief_text.specs.declared.splitting.Part as program
use Rattle.std.specs.Prelude.{if◌then◌else◌}
use Rattle.std.specs.List.{flat_map}
use Rattle.brief_text.proofs.PushLemmas.{one_further, map_where}
use Rattle.std.proofs.lemmas.List.{take_all}
use Rattle.std.specs.List.{filter}
use Rattle.brief_text.specs.Parting.{part, apart, names_of}
use Rattle.brief_text.specs.Splitting.{are_of_one}
use Rattle.brief_text.proofs.SplitLemmas.{with_each}
use Rattle.brief_text.proofs.splitting.push_beside.Goals as goal

pub loop-second-preserved : goal.loop-second-preserved
loop-second-preserved c =
    let one = part c.args.first.now in
    let g = λ (it : program.Part). if are_of_one (one, part it) then names_of (one, part it) ∷ [] else [] in
    one_further g c.args.others.now _ _ _ c.loop-second.second-index c.second-item.result c.loop-second-test.true c.second-item.is c.loop-second.invariant c.in_ok-push_if_of_one.ensures

pub returns : goal.returns
returns c =
    let one = part c.args.first.now in
    let before = map apart c.args.pairs.now.items in
    c.loop-second.invariant
    ∙ ap (λ os. before ++ flat_map (λ it. if are_of_one (one, part it) then names_of (one, part it) ∷ [] else []) os) (take_all c.loop-second.second-index c.args.others.now c.loop-second-test.false)
    ∙ ap (λ ps. before ++ ps) (map_where (λ it. (one, part it)) are_of_one names_of c.args.others.now ∙ ap (λ ps. map names_of (filter are_of_one ps)) (with_each part one c.args.others.now))
