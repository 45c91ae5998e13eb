use Rattle.std.proofs.Common.{◌≡◌, ◌++◌, map, ap, sym, ◌∙◌, subst}
use Rattle.std.specs.Result.{OnOk}
use Rattle.plan_core.specs.NameBytes.{name_bytes}
use Rattle.brief_text.specs.Parting.{apart}
use Rattle.brief_text.specs.Splitting.{pairs_between, parts_meant}
use Rattle.brief_text.specs.Standing.{draft, sides}
use Rattle.brief_text.proofs.SplitLemmas.{names_between}
use Rattle.brief_text.proofs.boards.Board.push_never.Goals as goal

pub returns : goal.returns
returns c =
    let d = draft c.args.self.now in
    let never = sides c.args.never.now in
    let firsts = ap (map name_bytes) c.as_slice.ensures.value ∙ c.in_ok-firsts.ensures in
    let seconds = ap (map name_bytes) c.as_slice-2.ensures.value ∙ c.in_ok-seconds.ensures in
    let same = (λ i. pairs_between (firsts i) (seconds i)) ∙ sym (names_between (parts_meant d never.0) (parts_meant d never.1)) in
    subst (λ pairs. OnOk c.push_pairs_between.result (map apart c.push_pairs_between.new.pairs.items ≡ map apart c.args.pairs.now.items ++ pairs)) same c.push_pairs_between.ensures
