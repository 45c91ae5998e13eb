use Rattle.std.proofs.Common.{ap, ◌∙◌}
use Rattle.std.specs.Option.{option_or, option_map}
use Rattle.std.specs.Map.{keys_of}
use Rattle.plan_core.specs.NameBytes.{name_bytes}
use Rattle.plan_core.specs.PlanContents.{plan_contents}
use Rattle.spellings.proofs.NameLemmas.{first_of_three, some_of_three}
use Rattle.brief_tokens.specs.Names.{is_brief_word}
use Rattle.spellings.proofs.writing.brief_word.Goals as goal

pub returns-clause-first : goal.returns-clause-first
returns-clause-first c =
    let plan = plan_contents c.args.plan.now in
    ap (option_map (λ name. name_bytes name.now)) (c.or-2.ensures ∙ ap (λ o. option_or o c.word_of-3.result) c.or.ensures)
    ∙ first_of_three (λ name. name_bytes name.now) is_brief_word c.word_of.result c.word_of-2.result c.word_of-3.result
    (keys_of plan.messages) (keys_of plan.controllers) (keys_of plan.interrupts) c.word_of.ensures c.word_of-2.ensures c.word_of-3.ensures

pub returns-clause-some : goal.returns-clause-some
returns-clause-some c =
    let plan = plan_contents c.args.plan.now in
    some_of_three (λ name. name_bytes name.now) is_brief_word c.or-2.result (keys_of plan.messages) (keys_of plan.controllers) (keys_of plan.interrupts) (returns-clause-first c)
