use Rattle.std.proofs.Common.{◌≡◌, ℕ, List, [], map}
use Rattle.plan_core.specs.NameBytes.{name_bytes}
use Rattle.brief_text.specs.Items.{names_from, listed_refusal}
use Rattle.brief_text.specs.Judging.{all_of}
use Rattle.brief_text.specs.Standing.{draft, place}
use Rattle.brief_text.proofs.ValueLemmas.{size}
use Rattle.brief_text.proofs.items.listed.Given as goal

-- after the names so far, which stand for the messages so far, the others are read as all are
abbrev pub invariant-names : goal.invariant-names
invariant-names l =
    (names : List (List ℕ))
    × (names_from (listed_refusal (draft l.board) (map name_bytes l.has)) names (place l.source).tokens (place l.source) ≡ names_from (listed_refusal (draft l.board) (map name_bytes l.has)) [] (place l.initial.source).tokens (place l.initial.source))
    × (map name_bytes l.messages.items ≡ all_of (draft l.board) names)

abbrev pub decreases-names : goal.decreases-names
decreases-names l = size (place l.source).tokens
