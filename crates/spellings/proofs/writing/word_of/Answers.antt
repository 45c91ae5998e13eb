use Rattle.std.proofs.Common.{◌≡◌, true, false, ap, sym, ◌∙◌}
use Rattle.plan_core.specs.NameBytes.{name_bytes}
use Rattle.plan_core.specs.PlanContents.{plan_contents}
use Rattle.spellings.specs.Kinds.{names_of}
use Rattle.spellings.proofs.NameLemmas.{found_at, passed_at}
use Rattle.brief_tokens.specs.Names.{is_brief_word}
use Rattle.spellings.proofs.writing.word_of.Goals as goal

pub returns-then-is_brief_word : goal.returns-then-is_brief_word
returns-then-is_brief_word c =
    let is : is_brief_word (name_bytes c.name_in-name.result.now) ≡ true = ap is_brief_word (sym c.as_str.ensures) ∙ (sym c.is_brief_word.ensures ∙ c.if-is_brief_word.true) in
    found_at is_brief_word (names_of c.args.kind (plan_contents c.args.plan.now)) c.loop-k.k (name_bytes c.name_in-name.result.now) c.name_in-name.ensures is c.loop-k.invariant

pub loop-k-preserved : goal.loop-k-preserved
loop-k-preserved c =
    let is : is_brief_word (name_bytes c.name_in-name.result.now) ≡ false = ap is_brief_word (sym c.as_str.ensures) ∙ (sym c.is_brief_word.ensures ∙ c.if-is_brief_word.false) in
    passed_at is_brief_word (names_of c.args.kind (plan_contents c.args.plan.now)) c.loop-k.k (name_bytes c.name_in-name.result.now) c.name_in-name.ensures is c.loop-k.invariant
