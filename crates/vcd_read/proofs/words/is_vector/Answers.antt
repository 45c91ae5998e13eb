use Rattle.std.proofs.Common.{rules, tests, ◌∙◌, ◌≡◌, length, ◌==◌, false, sym}
use Rattle.std.proofs.lemmas.Iterator.{YieldsList-from_slice}
use Rattle.std.proofs.lemmas.Iterator.Search.{all_from_yields_List}
use Rattle.vcd_read.specs.Words.{is_value}
use Rattle.vcd_read.proofs.WordLemmas.{vector_of_some}
use Rattle.vcd_read.proofs.words.is_vector.Goals as goal

pub returns-then-not-is_empty : goal.returns-then-not-is_empty
returns-then-not-is_empty c =
    let some : (length c.args.digits.now == 0) ≡ false = sym c.is_empty.ensures ∙ c.if-not-is_empty.true in
    all_from_yields_List is_value _ _ c.all.result c.all.ensures.ran (YieldsList-from_slice c.args.digits.now cc) (λ x b q k. search (rules, tests)) ∙ vector_of_some c.args.digits.now some
