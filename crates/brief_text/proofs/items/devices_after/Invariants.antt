use Rattle.std.proofs.Common.{◌≡◌, [], ◌∷◌, map}
use Rattle.plan_core.specs.NameBytes.{name_bytes}
use Rattle.brief_text.specs.Items.{names_from}
use Rattle.brief_text.specs.Judging.{device_refusal}
use Rattle.brief_text.specs.Standing.{draft, place}
use Rattle.brief_text.proofs.ValueLemmas.{size}
use Rattle.brief_text.proofs.items.devices_after.Given as goal

-- after the devices so far the others are read as all are
abbrev pub invariant-names : goal.invariant-names
invariant-names l =
    names_from (device_refusal (draft l.board)) (map name_bytes l.devices.items) (place l.source).tokens (place l.source)
    ≡ names_from (device_refusal (draft l.board)) (name_bytes l.fn.first ∷ []) (place l.initial.source).tokens (place l.initial.source)

abbrev pub decreases-names : goal.decreases-names
decreases-names l = size (place l.source).tokens
