use Rattle.std.proofs.Common.{rules, ◌≡◌, ◌+◌, [], map, length, ap, sym, ◌∙◌, arith}
use Rattle.std.proofs.lemmas.List.{map_push}
use Rattle.plan_core.specs.NameBytes.{name_bytes}
use Rattle.brief_text.specs.Drafts.{lengths, member_name}
use Rattle.brief_text.proofs.LoopLemmas.{with_rest, none_done, one_more, all_done}
use Rattle.brief_text.proofs.RangeLemmas.{range_is}
use Rattle.brief_text.proofs.boards.Board.members.Goals as goal

pub loop-k-init : goal.loop-k-init
loop-k-init c =
    let f = member_name (name_bytes c.args.name.now) in
    let n = length (lengths c.args.range) in
    let none : c.new-members.result.items ≡ [] = search rules in
    ap (λ items. with_rest f c.args.range.least n (map name_bytes items) 0) none ∙ none_done f c.args.range.least n ∙ ap (map f) (range_is c.args.range)

pub loop-k-preserved : goal.loop-k-preserved
loop-k-preserved c =
    let f = member_name (name_bytes c.args.name.now) in
    let n = length (lengths c.args.range) in
    let done = map name_bytes c.loop-k.members.items in
    let items = ap (map name_bytes) c.in_ok-push.ensures.items ∙ map_push name_bytes c.loop-k.members.items c.in_ok-member.field-0 in
    ap (λ d. with_rest f c.args.range.least n d (c.loop-k.k + 1)) items
    ∙ one_more f c.args.range.least n done c.loop-k.k _ (omega (arith, c.loop-k-test.true, c.count-k-end.ensures.count)) c.in_ok-member.ensures
    ∙ c.loop-k.invariant

pub returns : goal.returns
returns c =
    let f = member_name (name_bytes c.args.name.now) in
    let n = length (lengths c.args.range) in
    let all : c.loop-k.k ≡ n = omega (arith, c.loop-k-test.false, c.loop-k.auto.k-end, c.count-k-end.ensures.count) in
    sym (all_done f c.args.range.least n (map name_bytes c.loop-k.members.items) c.loop-k.k all) ∙ c.loop-k.invariant
