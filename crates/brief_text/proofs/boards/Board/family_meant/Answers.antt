use Rattle.std.proofs.Common.{rules, ◌≡◌, ℕ, List, ◌+◌, [], map, length, ap, sym, ◌∙◌, arith}
use Rattle.std.proofs.lemmas.List.{map_push}
use Rattle.message_tree.specs.Trees.{FrameTree, frame_tree}
use Rattle.plan_core.specs.NameBytes.{name_bytes}
use Rattle.brief_text.specs.Drafts.{lengths, member_name, member_meant, frame_on}
use Rattle.brief_text.specs.Meanings.{message_of}
use Rattle.brief_text.specs.Standing.{draft, with_device, brief_frame}
use Rattle.brief_text.proofs.LoopLemmas.{with_rest, none_done, one_more, all_done}
use Rattle.brief_text.proofs.RangeLemmas.{range_is}
use Rattle.brief_text.proofs.boards.Board.family_meant.Goals as goal

abbrev named_tree : List ℕ → FrameTree → List ℕ × FrameTree
named_tree name tree = (name, tree)

pub loop-k-init : goal.loop-k-init
loop-k-init c =
    let f = member_meant (with_device (draft c.args.self.now) c.args.in_place) (name_bytes c.args.name.now) (brief_frame c.args.frames.now) in
    let n = length (lengths c.args.range) in
    let none : c.new-messages.result.items ≡ [] = search rules in
    ap (λ items. with_rest f c.args.range.least n (map message_of items) 0) none ∙ none_done f c.args.range.least n ∙ ap (map f) (range_is c.args.range)

pub loop-k-preserved : goal.loop-k-preserved
loop-k-preserved c =
    let f = member_meant (with_device (draft c.args.self.now) c.args.in_place) (name_bytes c.args.name.now) (brief_frame c.args.frames.now) in
    let n = length (lengths c.args.range) in
    let at = c.args.range.least + c.loop-k.k in
    let done = map message_of c.loop-k.messages.items in
    let items = ap (map message_of) c.in_ok-push.ensures.items ∙ map_push message_of c.loop-k.messages.items _ in
    let tree = c.in_ok-frame.ensures ∙ ap (frame_on (with_device (draft c.args.self.now) c.args.in_place) at (brief_frame c.args.frames.now)) c.at_start.ensures in
    let is = ap (λ name. named_tree name (frame_tree c.in_ok-frame.frame)) c.in_ok-name.ensures ∙ ap (named_tree (member_name (name_bytes c.args.name.now) at)) tree in
    ap (λ d. with_rest f c.args.range.least n d (c.loop-k.k + 1)) items
    ∙ one_more f c.args.range.least n done c.loop-k.k _ (omega (arith, c.loop-k-test.true, c.count-k-end.ensures.count)) is
    ∙ c.loop-k.invariant

pub returns : goal.returns
returns c =
    let f = member_meant (with_device (draft c.args.self.now) c.args.in_place) (name_bytes c.args.name.now) (brief_frame c.args.frames.now) in
    let n = length (lengths c.args.range) in
    let all : c.loop-k.k ≡ n = omega (arith, c.loop-k-test.false, c.loop-k.auto.k-end, c.count-k-end.ensures.count) in
    sym (all_done f c.args.range.least n (map message_of c.loop-k.messages.items) c.loop-k.k all) ∙ c.loop-k.invariant
