use Rattle.std.proofs.Common.{◌-◌, suc, ap, sym, ◌∙◌, add-one}
use Rattle.brief_text.proofs.RangeLemmas.{range_length}
use Rattle.brief_text.proofs.meanings.count.Goals as goal

pub returns-clause-count : goal.returns-clause-count
returns-clause-count c =
    c.saturating_sub.ensures ∙ ap (λ n. n - c.args.range.least) (add-one c.args.range.greatest)
    ∙ sym (range_length c.args.range.least (suc c.args.range.greatest - c.args.range.least))
