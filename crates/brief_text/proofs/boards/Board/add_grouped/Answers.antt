use Rattle.std.proofs.Common.{◌≡◌, ◌++◌, ◌∷◌, [], ℕ, List, map, ap, sym, ◌∙◌}
use Rattle.message_tree.specs.Trees.{FrameTree}
use Rattle.plan_core.specs.NameBytes.{name_bytes}
use Rattle.plan_core.specs.declared.names.Name.{Name}
use Rattle.brief_text.specs.Drafts.{Draft, with_messages, families_of, grouped_meant, device_name, device_names}
use Rattle.brief_text.specs.Meanings.{message_of}
use Rattle.brief_text.specs.Standing.{draft, brief_frame}
use Rattle.brief_text.proofs.BoardLemmas.{names_over}
use Rattle.brief_text.proofs.boards.Board.add_grouped.Goals as goal

pub returns : goal.returns
returns c =
    let d = draft c.args.self.now in
    let name = name_bytes c.args.named.name in
    let range = c.args.range in
    let group = name_bytes c.args.group.now in
    let now = map name_bytes c.in_ok-names.names.items in
    let messages : map message_of c.in_ok-messages.messages.items ≡ grouped_meant d name range (brief_frame c.args.frames.now) group = c.in_ok-messages.ensures in
    let names : now ≡ device_names d name group = c.in_ok-names.ensures ∙ sym (names_over (device_name name) c.devices_of.result.now) ∙ ap (map (device_name name)) c.devices_of.ensures in
    let last = λ (e : Draft). record e { grouped = e.grouped ++ (name, now) ∷ [] } in
    let middle = λ (e : Draft). record e { families = e.families ++ families_of range now } in
    let slice = ap (λ (them : List Name). record (draft c.use_devices.new.self) { families = (draft c.use_devices.new.self).families ++ families_of range (map name_bytes them) }) c.as_slice.ensures.value in
    let made = λ (them : List (List ℕ × FrameTree)) (made_names : List (List ℕ)). record d { plan = with_messages d.plan them; families = d.families ++ families_of range made_names; grouped = d.grouped ++ (name, made_names) ∷ [] } in
    c.in_ok-push_grouped.ensures ∙ ap last (c.in_ok-add_families.ensures ∙ slice) ∙ ap (λ e. last (middle e)) (c.use_devices.ensures ∙ c.in_ok-push_messages.ensures) ∙ (λ i. made (messages i) (names i))
