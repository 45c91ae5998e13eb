use Rattle.std.proofs.Common.{◌||◌, map, sym, ◌∙◌}
use Rattle.plan_core.specs.NameBytes.{name_bytes}
use Rattle.brief_text.specs.Judging.{have_one_of}
use Rattle.brief_text.proofs.BoardLemmas.{have_one}
use Rattle.brief_text.proofs.boards.either_has_one_of.Goals as goal

pub returns-then-have_one_of : goal.returns-then-have_one_of
returns-then-have_one_of c =
    let names = c.args.names.now in
    let one = have_one c.args.listed.now names ∙ sym c.have_one_of.ensures ∙ c.if-have_one_of.true in
    c.if-have_one_of.true ∙ (λ i. sym one i || have_one_of (map name_bytes c.args.others.now) (map name_bytes names))

pub returns-else-have_one_of : goal.returns-else-have_one_of
returns-else-have_one_of c =
    let names = c.args.names.now in
    let none = have_one c.args.listed.now names ∙ sym c.have_one_of.ensures ∙ c.if-have_one_of.false in
    let other = have_one c.args.others.now names ∙ sym c.have_one_of-else-have_one_of.ensures in
    sym ((λ i. none i || have_one_of (map name_bytes c.args.others.now) (map name_bytes names)) ∙ other)
