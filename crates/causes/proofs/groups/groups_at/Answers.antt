use Rattle.std.proofs.Common.{Some, get_or, ap, sym, ◌∙◌, arith}
use Rattle.std.proofs.lemmas.Option.{slice_get-get_or}
use Rattle.causes.proofs.StepLemmas.{groups_none, groups_more}
use Rattle.causes.proofs.groups.groups_at.Goals as goal

pub group_at-requires-clause-place : goal.group_at-requires-clause-place
group_at-requires-clause-place c =
    let places = c.args.places.now in
    c.requires.places c.loop-g.g (get_or places c.loop-g.g 0) (slice_get-get_or places c.loop-g.g 0 c.loop-g-test.true)

pub group_at-requires-clause-within : goal.group_at-requires-clause-within
group_at-requires-clause-within c =
    let places = c.args.places.now in
    let order = c.args.order.now in
    let i = get_or places c.loop-g.g 0 in
    let low = c.requires.places c.loop-g.g i (slice_get-get_or places c.loop-g.g 0 c.loop-g-test.true) in
    c.requires.causes i (get_or order i (0, 0)) (slice_get-get_or order i (0, 0) low)

pub loop-g-init : goal.loop-g-init
loop-g-init c =
    rw c.in_ok-groups.ensures.items (groups_none c.args.causes.now c.args.order.now c.args.places.now c.args.counts.now)

pub loop-g-preserved : goal.loop-g-preserved
loop-g-preserved c =
    let places = c.args.places.now in
    let order = c.args.order.now in
    let counts = c.args.counts.now in
    let g = c.loop-g.g in
    let i = get_or places g 0 in
    let placed = slice_get-get_or places g 0 c.loop-g-test.true in
    let low = c.requires.places g i placed in
    let ordered = slice_get-get_or order i (0, 0) low in
    let pairs = slice_get-get_or counts g 0 (omega (arith, c.loop-g-test.true, c.requires.counts)) ∙ ap Some (sym c.group_at.ensures.pairs) in
    rw c.in_ok-push.ensures.items (groups_more c.args.causes.now order places counts g c.loop-g.groups.items c.loop-g.invariant i (get_or order i (0, 0)) c.group_at.result placed ordered c.group_at.ensures.cause c.group_at.ensures.example pairs)
