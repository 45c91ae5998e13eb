use Rattle.std.proofs.Common.{◌≡◌, drop}
use Rattle.std.specs.List.{find}
use Rattle.plan_core.specs.PlanContents.{plan_contents}
use Rattle.spellings.specs.Kinds.{names_of}
use Rattle.brief_tokens.specs.Names.{is_brief_word}
use Rattle.spellings.proofs.writing.word_of.Given as goal

-- no name before this one is such a word
abbrev pub invariant-loop-k : goal.invariant-loop-k
invariant-loop-k l =
    let names = names_of l.kind (plan_contents l.plan) in
    find is_brief_word (drop l.k names) ≡ find is_brief_word names
