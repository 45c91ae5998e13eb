use Rattle.std.proofs.Common.{◌≡◌, ◌++◌, map, take}
use Rattle.std.specs.List.{flat_map}
use Rattle.plan_core.specs.NameBytes.{name_bytes}
use Rattle.brief_text.specs.Drafts.{members}
use Rattle.brief_text.proofs.boards.Board.push_members.Given as goal

abbrev pub invariant-loop-name : goal.invariant-loop-name
invariant-loop-name l = map name_bytes l.further.items ≡ map name_bytes l.initial.further.items ++ flat_map (λ it. members (name_bytes it) l.range) (take l.name-index l.names)
