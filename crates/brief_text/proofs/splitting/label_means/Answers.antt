use Rattle.std.proofs.Common.{ℕ, ◌||◌, ◌≡◌, ◌++◌, List, map, ap, sym, ◌∙◌}
use Rattle.std.specs.Option.{option_map}
use Rattle.std.specs.List.{list_any}
use Rattle.std.specs.Str.{bytes_eq}
use Rattle.plan_core.specs.NameBytes.{name_bytes}
use Rattle.brief_text.specs.Drafts.{Draft, stands_for, names_made}
use Rattle.brief_text.specs.Splitting.{label_means, label_names, label_messages}
use Rattle.brief_text.specs.Trees.{Side}
use Rattle.brief_text.proofs.splitting.label_means.Goals as goal

abbrev both_named : Draft → Side → List (List ℕ)
both_named draft side = label_names draft side ++ label_messages draft side

pub returns-else-eq : goal.returns-else-eq
returns-else-eq c draft named =
    let label = name_bytes c.in-Some-Some.label in
    let other = name_bytes c.in-Some-Some.other in
    let p = λ (it : List ℕ). bytes_eq it other in
    let stand : map name_bytes c.args.names.now ≡ names_made draft label ++ stands_for draft label = named ∙ (λ i. both_named draft (record { controller = name_bytes c.args.party.now.controller; label = option_map name_bytes (c.in-Some-Some.is-0 i) })) in
    c.is_among.ensures ∙ ap (list_any p) stand ∙ ap (λ t. t || list_any p (names_made draft label ++ stands_for draft label)) c.if-eq.ensures
    ∙ sym (λ i. label_means draft (option_map name_bytes (c.in-Some-Some.is-0 i)) (option_map name_bytes (c.in-Some-Some.is-1 i)))
