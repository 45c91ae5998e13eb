-- The controllers of a plan that is meant, as a builder adds them.
use Rattle.std.specs.Prelude.{◌≡◌, List, [], ◌∷◌, None}
use Rattle.plan_core.specs.Building.{controller_refusal, with_controller}
use Rattle.plan_core.specs.Contents.{Contents}
use Rattle.brief_text.specs.Splitting.{Part, part_name}

-- a builder refuses none of these controllers, one after another
abbrev pub NoneIsRefused : Contents → List Part → Type 0
NoneIsRefused plan [] = Unit {0}
NoneIsRefused plan (part ∷ parts) =
    (controller_refusal plan (part_name part) part.messages ≡ None)
    × NoneIsRefused (with_controller plan (part_name part) part.messages) parts
