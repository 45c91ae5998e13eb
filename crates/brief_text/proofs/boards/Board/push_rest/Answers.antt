use Rattle.std.proofs.Common.{ℕ, ◌≡◌, List, [], ◌∷◌, ◌++◌, map, ap, ◌∙◌, subst}
use Rattle.std.specs.Result.{OnOk}
use Rattle.std.specs.List.{filter, list_any}
use Rattle.std.specs.Prelude.{not}
use Rattle.std.specs.Str.{bytes_eq}
use Rattle.plan_core.specs.NameBytes.{name_bytes}
use Rattle.brief_text.specs.Parting.{part}
use Rattle.brief_text.specs.Splitting.{sends_any, rest_part, labels_of}
use Rattle.brief_text.specs.Standing.{draft, listing}
use Rattle.brief_text.proofs.boards.Board.push_rest.Goals as goal

pub returns : goal.returns
returns c =
    let d = draft c.args.self.now in
    let it = listing c.args.controller.now in
    let left = λ (labelled : List (List ℕ)) (listed : List (List ℕ)). filter (λ message. not (list_any (λ other. bytes_eq other message) labelled)) listed in
    let listed = ap (map name_bytes) c.as_slice.ensures.value in
    let labelled = ap (map name_bytes) c.as_slice-2.ensures.value ∙ c.in_ok-labelled.ensures in
    let messages = c.in_ok-messages.ensures ∙ (λ i. left (labelled i) (listed i)) in
    let same : part (record { party = c.in_ok-party.party; messages = c.in_ok-messages.messages; spot = c.args.controller.now.spot }) ≡ rest_part d (labels_of d it.0) it.1 it.0 = λ i. record { side = c.in_ok-party.ensures i; messages = messages i } in
    subst (λ one. OnOk c.push_sending.result (map part c.push_sending.new.parts.items ≡ map part c.args.parts.now.items ++ filter sends_any (one ∷ []))) same c.push_sending.ensures
