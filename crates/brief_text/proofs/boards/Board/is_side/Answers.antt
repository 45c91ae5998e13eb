use Rattle.std.proofs.Common.{List, map, Some, ap, sym, ◌∙◌}
use Rattle.std.specs.Option.{option_map}
use Rattle.plan_core.specs.NameBytes.{name_bytes}
use Rattle.plan_core.specs.declared.names.Name.{Name}
use Rattle.brief_text.specs.Standing.{draft}
use Rattle.brief_text.proofs.BoardLemmas.{side_lists}
use Rattle.brief_text.proofs.boards.Board.is_side.Goals as goal

pub returns : goal.returns
returns c =
    let found = sym c.controller.ensures ∙ ap (option_map (λ it. map name_bytes it.now.messages.items)) c.in-Some.is ∙ ap (λ (ns : List Name). Some (map name_bytes ns)) (sym c.as_slice.ensures.value) in
    let stand = ap (map name_bytes) c.as_slice-2.ensures.value ∙ c.in_ok-named.ensures in
    c.have_one_of.ensures ∙ sym (side_lists (draft c.args.self.now) c.args.party.now c.in-Some-label.label c.as_slice.result.now c.as_slice-2.result.now found c.in-Some-label.is stand)
