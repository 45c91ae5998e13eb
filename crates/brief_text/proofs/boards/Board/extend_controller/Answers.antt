use Rattle.std.proofs.Common.{◌++◌, length, map, ap, sym, ◌∙◌}
use Rattle.std.proofs.lemmas.Bool.{ltb-true}
use Rattle.std.proofs.lemmas.List.{map-append}
use Rattle.plan_core.specs.NameBytes.{name_bytes}
use Rattle.brief_text.specs.declared.boards.Listing.{Listing}
use Rattle.brief_text.specs.Standing.{draft}
use Rattle.brief_text.proofs.ExtendLemmas.{extends_at}
use Rattle.brief_text.proofs.boards.Board.extend_controller.Goals as goal

pub returns-in-Some : goal.returns-in-Some
returns-in-Some c =
    let d = draft c.args.self.now in
    let name = name_bytes c.args.name.now in
    let old = c.in-Some.controller.now in
    let items = c.args.self.now.controllers.items in
    let longer = ap (map name_bytes) c.in_ok-append-in-Some.ensures.items ∙ map-append name_bytes old.messages.items c.args.messages.items in
    let at = c.in-Some.ensures.item in
    let new : Listing = record { name = old.name; messages = c.append.new.self; spot = old.spot } in
    let same = ap (λ (it : Listing). name_bytes it.name) at.1 in
    let more = longer ∙ ap (λ (it : Listing). map name_bytes it.messages.items ++ map name_bytes c.args.messages.items) at.1 in
    ap (λ them. record d { controllers = them }) (extends_at name (map name_bytes c.args.messages.items) items new old c.place_of-place.result c.place_of-place.ensures (ltb-true c.place_of-place.result (length items) (sym at.0)) same more)
