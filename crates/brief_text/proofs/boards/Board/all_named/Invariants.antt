use Rattle.std.proofs.Common.{◌≡◌, map, take}
use Rattle.std.specs.List.{flat_map}
use Rattle.plan_core.specs.NameBytes.{name_bytes}
use Rattle.brief_text.specs.Drafts.{stands_alone_for}
use Rattle.brief_text.specs.Standing.{draft}
use Rattle.brief_text.proofs.boards.Board.all_named.Given as goal

abbrev pub invariant-loop-name : goal.invariant-loop-name
invariant-loop-name l = map name_bytes l.all.items ≡ flat_map (λ it. stands_alone_for (draft l.self) (name_bytes it)) (take l.name-index l.names)
