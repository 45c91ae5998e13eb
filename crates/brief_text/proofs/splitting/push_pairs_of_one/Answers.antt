use Rattle.std.proofs.Common.{◌++◌, map, take, drop, length, ◌-◌, ap, sym, ◌∙◌}
use Rattle.std.specs.List.{filter}
use Rattle.std.proofs.lemmas.List.{append-nil, append_assoc}
use Rattle.brief_text.specs.Parting.{part, apart, names_of}
use Rattle.brief_text.specs.Splitting.{are_of_one, pairs_among}
use Rattle.brief_text.proofs.SplitLemmas.{among_more, first_and_rest, none_below}
use Rattle.brief_text.proofs.splitting.push_pairs_of_one.Goals as goal

pub loop-left-preserved : goal.loop-left-preserved
loop-left-preserved c =
    let left = c.loop-left.left.now in
    let one = c.first-item.result in
    let rest = take (length left - 1) (drop 1 left) in
    let so_far = map apart c.loop-left.pairs.items in
    let beside = map names_of (filter are_of_one (map (λ other. (part one, other)) (map part rest))) in
    let after = map names_of (filter are_of_one (pairs_among (map part rest))) in
    ap (λ ps. ps ++ after) c.in_ok-push_beside.ensures
    ∙ append_assoc so_far beside after
    ∙ ap (λ ps. so_far ++ ps) (sym (among_more (part one) (map part rest)) ∙ ap (λ them. map names_of (filter are_of_one (pairs_among (map part them)))) (sym (first_and_rest left one c.in-len1-up.len_at_least c.first-item.is)))
    ∙ c.loop-left.invariant

pub returns : goal.returns
returns c =
    let left = c.loop-left.left.now in
    let so_far = map apart c.loop-left.pairs.items in
    sym (append-nil so_far) ∙ ap (λ them. so_far ++ map names_of (filter are_of_one (pairs_among (map part them)))) (sym (none_below left c.in_default.len_below)) ∙ c.loop-left.invariant
