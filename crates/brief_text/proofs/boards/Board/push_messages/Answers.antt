use Rattle.std.proofs.Common.{◌≡◌, ◌∷◌, List, map, ap, sym, ◌∙◌, arith}
use Rattle.std.proofs.lemmas.Bool.Decides.{nat_tests}
use Rattle.brief_text.specs.declared.meanings.Message.{Message}
use Rattle.brief_text.specs.Drafts.{Draft}
use Rattle.brief_text.specs.Meanings.{message_of}
use Rattle.brief_text.specs.Standing.{draft}
use Rattle.brief_text.proofs.MessageLemmas.{with_all, first_removed, none_left}
use Rattle.brief_text.proofs.boards.Board.push_messages.Goals as goal

pub loop-left-preserved : goal.loop-left-preserved
loop-left-preserved c =
    let before = draft c.loop-left.self in
    let all = c.loop-left.left.items in
    let rest = map message_of c.remove-message.new.self.items in
    let first = first_removed all c.remove-message.result (grind (arith, nat_tests)) c.remove-message.ensures.value in
    let removed : all ≡ c.remove-message.result ∷ c.remove-message.new.self.items = first ∙ ap (λ ms. c.remove-message.result ∷ ms) (sym c.remove-message.ensures.items) in
    ap (λ (d : Draft). with_all d rest) c.in_ok-push_message.ensures
    ∙ ap (λ (ms : List Message). with_all before (map message_of ms)) (sym removed)
    ∙ c.loop-left.invariant

pub returns : goal.returns
returns c =
    let d = draft c.loop-left.self in
    ap (λ (ms : List Message). with_all d (map message_of ms)) (sym (none_left c.loop-left.left.items (grind (arith, nat_tests)))) ∙ c.loop-left.invariant
